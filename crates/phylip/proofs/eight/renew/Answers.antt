-- `phylip::eight::renew` meets its contract. Assumes nothing.
use Rattle.phylip.proofs.eight.renew.Goals as goal

pub write_eight-requires : goal.write_eight-requires
write_eight-requires c = record { s_value = c.requires.s_value; i_bound = c.requires.i_bound; shortened = c.requires.shortened; out_len = c.requires.kept.room }

pub returns-else-i-eq0 : goal.returns-else-i-eq0
returns-else-i-eq0 c = c.requires.kept.block c.if-i-eq0.false
