-- `clib::sheets::jakku_summary_lines` meets its contract. Assumes nothing.
use Rattle.clib.proofs.sheets.jakku_summary_lines.Goals as goal

pub returns : goal.returns
returns c = let h = c.two.ensures in record { printed_as = rw (h.0, ← c.answer.ensures) c.lines.ensures; value = rw h.0 h.1 }
