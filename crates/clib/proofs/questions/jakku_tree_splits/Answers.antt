-- `clib::questions::jakku_tree_splits` meets its contract. Assumes nothing.
use Rattle.clib.proofs.questions.jakku_tree_splits.Goals as goal

pub returns : goal.returns
returns c = let h = c.number.ensures in record { filled_as = rw h.0 (c.tree_splits.ensures.result_value, c.tree_splits.ensures.masks_after); value = rw h.0 h.1 }
