-- `clib::files::jakku_merge` meets its contract. Assumes nothing.
use Rattle.clib.proofs.files.jakku_merge.Goals as goal

pub returns : goal.returns
returns c = let h = c.number.ensures in record { filled_as = rw h.0 c.merge.ensures; value = rw h.0 h.1 }
