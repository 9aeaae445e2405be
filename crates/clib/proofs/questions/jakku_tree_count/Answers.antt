-- `clib::questions::jakku_tree_count` meets its contract. Assumes nothing.
use Rattle.clib.proofs.questions.jakku_tree_count.Goals as goal

pub returns : goal.returns
returns c = let h = c.number.ensures in record { result_value = rw h.0 c.tree_count.ensures; value = rw h.0 h.1 }
