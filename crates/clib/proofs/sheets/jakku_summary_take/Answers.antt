-- `clib::sheets::jakku_summary_take` meets its contract. Assumes nothing.
use Rattle.clib.proofs.sheets.jakku_summary_take.Goals as goal

pub returns : goal.returns
returns c = let h = c.reached.ensures in record { took_as = rw (h.0, ← c.summing.ensures) c.take.ensures; value = rw h.0 h.1 }
