-- `clib::texts::jakku_both` meets its contract. Assumes nothing.
use Rattle.clib.proofs.texts.jakku_both.Goals as goal

pub returns : goal.returns
returns c = let h = c.two.ensures in record { both_filled_as = rw h.0 c.both.ensures; value = rw h.0 h.1 }
