-- `sheet::give` meets its contract. Assumes nothing.
use mathlib.Core.Path.{refl}
use native.Mathlib.Omega.{arith}
use Rattle.answers.specs.AnswerLaws.{filled-short, filled-given}
use Rattle.sheet.proofs.give.Goals as goal

pub returns-then-out-n : goal.returns-then-out-n
returns-then-out-n c = filled-short _ _ _ refl (omega arith)

pub returns : goal.returns
returns c = filled-given _ c.args.out.now c.args.text.now refl _ _ refl (omega arith) (rw c.copy_from_slice.ensures.after)
