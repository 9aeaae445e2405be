-- `clib::feeds::jakku_withdraw` meets its contract. Assumes nothing.
use Rattle.clib.proofs.feeds.jakku_withdraw.Goals as goal

pub returns : goal.returns
returns c = let h = c.finish.ensures in record { withdrawn_as = rw h.0 c.withdraw.ensures; value = rw h.0 h.1 }
