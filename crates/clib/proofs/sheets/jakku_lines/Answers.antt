-- `clib::sheets::jakku_lines` meets its contract. Assumes nothing.
use Rattle.clib.proofs.sheets.jakku_lines.Goals as goal

pub returns : goal.returns
returns c = let h = c.two.ensures in record { prints_as = rw h.0 c.lines.ensures; value = rw h.0 h.1 }
