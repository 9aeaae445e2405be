-- `clib::openings::jakku_open` meets its contract. Assumes nothing.
use Rattle.clib.proofs.openings.jakku_open.Goals as goal

pub returns : goal.returns
returns c = let h = c.finish.ensures in record { opened_as = rw h.0 c.«open».ensures; value = rw h.0 h.1 }
