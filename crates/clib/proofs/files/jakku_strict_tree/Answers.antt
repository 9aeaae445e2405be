-- `clib::files::jakku_strict_tree` meets its contract. Assumes nothing.
use Rattle.clib.proofs.files.jakku_strict_tree.Goals as goal

pub returns : goal.returns
returns c = let h = c.number.ensures in record { filled_as = rw h.0 c.strict_tree.ensures; value = rw h.0 h.1 }
