-- `clib::openings::jakku_size` meets its contract. Assumes nothing.
use Rattle.clib.proofs.openings.jakku_size.Goals as goal

pub returns : goal.returns
returns c = let h = c.number.ensures in record { result_value = rw h.0 c.size.ensures; value = rw h.0 h.1 }
