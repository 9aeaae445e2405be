-- `clib::comparisons::jakku_doubled` meets its contract. Assumes nothing.
use Rattle.clib.proofs.comparisons.jakku_doubled.Goals as goal

pub returns : goal.returns
returns c = let h = c.number.ensures in record { result_value = rw h.0 c.doubled.ensures; value = rw h.0 h.1 }
