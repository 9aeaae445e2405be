-- `clib::files::jakku_write_matrix` meets its contract. Assumes nothing.
use Rattle.clib.proofs.files.jakku_write_matrix.Goals as goal

pub returns : goal.returns
returns c = let h = c.number.ensures in record { filled_as = rw h.0 c.write_matrix.ensures; value = rw h.0 h.1 }
