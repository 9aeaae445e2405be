-- `clib::questions::jakku_reason` meets its contract. Assumes nothing.
use Rattle.clib.proofs.questions.jakku_reason.Goals as goal

pub returns : goal.returns
returns c = let h = c.number.ensures in record { filled_as = rw h.0 c.reason.ensures; value = rw h.0 h.1 }
