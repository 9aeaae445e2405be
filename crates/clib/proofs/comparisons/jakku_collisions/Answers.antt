-- `clib::comparisons::jakku_collisions` meets its contract. Assumes nothing.
use Rattle.clib.proofs.comparisons.jakku_collisions.Goals as goal

pub returns : goal.returns
returns c = let h = c.number.ensures in record { result_value = rw h.0 c.collisions.ensures; value = rw h.0 h.1 }
