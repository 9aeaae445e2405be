-- `clib::questions::jakku_one_split` meets its contract. Assumes nothing.
use Rattle.clib.proofs.questions.jakku_one_split.Goals as goal

pub returns : goal.returns
returns c = let h = c.split.ensures in record { result_value = rw h.0 c.one_split.ensures; value = rw h.0 h.1 }
