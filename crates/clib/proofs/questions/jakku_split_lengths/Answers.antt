-- `clib::questions::jakku_split_lengths` meets its contract. Assumes nothing.
use Rattle.clib.proofs.questions.jakku_split_lengths.Goals as goal

pub returns : goal.returns
returns c = let h = c.lengths.ensures in record { result_value = rw h.0 c.split_lengths.ensures; value = rw h.0 h.1 }
