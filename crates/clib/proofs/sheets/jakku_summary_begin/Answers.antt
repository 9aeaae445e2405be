-- `clib::sheets::jakku_summary_begin` meets its contract. Assumes nothing.
use Rattle.clib.proofs.sheets.jakku_summary_begin.Goals as goal

pub returns : goal.returns
returns c = let h = c.reached.ensures in record { begun_as = rw h.0 c.begin.ensures; value = rw h.0 h.1 }
