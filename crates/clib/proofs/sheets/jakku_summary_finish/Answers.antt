-- `clib::sheets::jakku_summary_finish` meets its contract. Assumes nothing.
use Rattle.clib.proofs.sheets.jakku_summary_finish.Goals as goal

pub returns : goal.returns
returns c = let h = c.number.ensures in record { finished_as = rw (h.0, ← c.summing.ensures) c.finish.ensures; value = rw h.0 h.1 }
