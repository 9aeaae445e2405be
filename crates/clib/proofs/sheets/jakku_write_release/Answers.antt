-- `clib::sheets::jakku_write_release` meets its contract. Assumes nothing.
use Rattle.clib.proofs.sheets.jakku_write_release.Goals as goal

pub returns : goal.returns
returns c = let h = c.number.ensures in record { filled_as = rw (h.0, ← c.wanted.ensures) c.write_release.ensures; value = rw h.0 h.1 }
