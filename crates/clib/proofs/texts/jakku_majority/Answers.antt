-- `clib::texts::jakku_majority` meets its contract. Assumes nothing.
use Rattle.clib.proofs.texts.jakku_majority.Goals as goal

pub returns : goal.returns
returns c = let h = c.number.ensures in record { filled_as = rw h.0 (c.majority.ensures.result_value, c.majority.ensures.out_after); value = rw h.0 h.1 }
