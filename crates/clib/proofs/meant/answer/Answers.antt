-- `clib::meant::answer` meets its contract. Assumes nothing.
use Rattle.clib.specs.AnswersLaws.{answer-refused, answer-given}
use Rattle.clib.proofs.meant.answer.Goals as goal

pub returns-then-k-ne0 : goal.returns-then-k-ne0
returns-then-k-ne0 c = rw c.refusal.ensures (answer-refused _ c.if-k-ne0.true)

pub returns : goal.returns
returns c = answer-given _ c.if-k-ne0.false
