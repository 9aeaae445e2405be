-- `clib::files::jakku_read_matrix` meets its contract. Assumes nothing.
use Rattle.clib.proofs.files.jakku_read_matrix.Goals as goal

pub returns : goal.returns
returns c = let h = c.number.ensures in record { read_as = rw h.0 c.read_matrix.ensures; value = rw h.0 h.1 }
