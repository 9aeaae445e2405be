-- `reasons::put` meets its contract. Assumes nothing.
use Rattle.std.proofs.Common.{arith, refl}
use Rattle.answers.specs.AnswerLaws.{filled-short, filled-given}
use Rattle.reasons.proofs.put.Goals as goal

pub returns-then-out-n : goal.returns-then-out-n
returns-then-out-n c = filled-short _ _ _ refl (omega arith)

pub returns : goal.returns
returns c = filled-given _ c.args.out.now c.args.sentence.now refl _ _ refl (omega arith) (rw c.copy_from_slice.ensures.after)
