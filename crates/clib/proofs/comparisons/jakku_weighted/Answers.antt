-- `clib::comparisons::jakku_weighted` meets its contract. Assumes nothing.
use Rattle.clib.proofs.comparisons.jakku_weighted.Goals as goal

pub returns : goal.returns
returns c = let h = c.weight.ensures in record { result_value = rw h.0 c.weighted.ensures; value = rw h.0 h.1 }
