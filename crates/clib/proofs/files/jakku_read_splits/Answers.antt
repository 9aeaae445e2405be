-- `clib::files::jakku_read_splits` meets its contract. Assumes nothing.
use Rattle.clib.proofs.files.jakku_read_splits.Goals as goal

pub returns : goal.returns
returns c = let h = c.two.ensures in record { read_as = rw h.0 c.read_splits.ensures; value = rw h.0 h.1 }
