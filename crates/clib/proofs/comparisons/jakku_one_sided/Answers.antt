-- `clib::comparisons::jakku_one_sided` meets its contract. Assumes nothing.
use Rattle.clib.proofs.comparisons.jakku_one_sided.Goals as goal

pub returns : goal.returns
returns c = let h = c.number.ensures in record { result_value = rw h.0 c.one_sided.ensures; value = rw h.0 h.1 }
