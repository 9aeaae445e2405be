-- `clib::sheets::jakku_refusal_line` meets its contract. Assumes nothing.
use Rattle.clib.proofs.sheets.jakku_refusal_line.Goals as goal

pub returns : goal.returns
returns c = let h = c.number.ensures in record { filled_as = rw h.0 c.refusal_line.ensures; value = rw h.0 h.1 }
