-- `clib::texts::jakku_write_accepted` meets its contract. Assumes nothing.
use Rattle.clib.proofs.texts.jakku_write_accepted.Goals as goal

pub returns : goal.returns
returns c = let h = c.number.ensures in record { filled_as = rw h.0 (c.write_accepted.ensures.result_value, c.write_accepted.ensures.out_after); value = rw h.0 h.1 }
