-- `clib::feeds::jakku_close` meets its contract. Assumes nothing.
use Rattle.clib.proofs.feeds.jakku_close.Goals as goal

pub returns : goal.returns
returns c = let h = c.finish.ensures in record { closed_as = rw h.0 c.close.ensures; value = rw h.0 h.1 }
