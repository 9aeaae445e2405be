-- `clib::comparisons::jakku_matrix` meets its contract. Assumes nothing.
use Rattle.clib.proofs.comparisons.jakku_matrix.Goals as goal

pub returns : goal.returns
returns c = let h = c.number.ensures in record { filled_as = rw h.0 (c.matrix.ensures.result_value, c.matrix.ensures.out_after); value = rw h.0 h.1 }
