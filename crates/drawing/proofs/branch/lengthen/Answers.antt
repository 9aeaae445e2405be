-- `drawing::branch::lengthen` meets its contract. Assumes nothing.
use native.Mathlib.Omega.{arith}
use Rattle.drawing.specs.StepLaws.{longer-put}
use Rattle.drawing.proofs.branch.lengthen.Goals as goal

pub returns : goal.returns
returns c = let w = c.put_word-b.ensures in record { put = longer-put _ _ w c.beside.ensures c.put_byte.ensures c.put_spaces.ensures; value = omega (arith, w.ends) }
