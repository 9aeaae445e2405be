-- `clib::meant::summing` meets its contract. Assumes nothing.
use Rattle.clib.specs.AnswersLaws.{summing-refused, summing-texts, summing-line}
use Rattle.clib.proofs.meant.summing.Goals as goal

pub returns-then-k-ne0 : goal.returns-then-k-ne0
returns-then-k-ne0 c = rw c.refusal.ensures (summing-refused _ c.if-k-ne0.true)

pub returns-then-state : goal.returns-then-state
returns-then-state c = summing-texts _ c.if-k-ne0.false c.if-state.true

pub returns : goal.returns
returns c = summing-line _ c.if-k-ne0.false c.if-state.false
