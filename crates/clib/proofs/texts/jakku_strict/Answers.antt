-- `clib::texts::jakku_strict` meets its contract. Assumes nothing.
use Rattle.clib.proofs.texts.jakku_strict.Goals as goal

pub returns : goal.returns
returns c = let h = c.number.ensures in record { filled_as = rw h.0 (c.strict.ensures.result_value, c.strict.ensures.out_after); value = rw h.0 h.1 }
