-- `lanes::over_length` meets its contract: the definition's two cases. Assumes nothing.
use Rattle.lanes.specs.Lanes.{over_length}
use Rattle.lanes.proofs.over_length.Goals as goal

pub returns-then-q : goal.returns-then-q
unfolding over_length
returns-then-q c = rw c.if-q.true

pub returns : goal.returns
unfolding over_length
returns c = rw c.if-q.false
