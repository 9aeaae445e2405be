-- `clib::questions::jakku_split_list` meets its contract. Assumes nothing.
use Rattle.clib.proofs.questions.jakku_split_list.Goals as goal

pub returns : goal.returns
returns c = let h = c.number.ensures in record { result_value = rw h.0 c.split_list.ensures.result_value; masks_after = c.split_list.ensures.masks_after; counts_after = c.split_list.ensures.counts_after; value = rw h.0 h.1 }
