use native.Mathlib.Omega.{arith}
use Rattle.nexus.specs.CommentLaws.{others-none, others-more, next_here, next-none}
use Rattle.nexus.proofs.comments.past_next.Goals as goal

pub loop-at-init : goal.loop-at-init
loop-at-init c = others-none _ _ _ c.requires

pub returns-then-s-at : goal.returns-then-s-at
returns-then-s-at c = next_here _ _ _ _ c.loop-at.invariant (omega arith) c.if-s-at.true

pub loop-at-preserved : goal.loop-at-preserved
loop-at-preserved c = others-more _ _ _ _ c.loop-at.invariant (omega arith) c.if-s-at.false

pub returns : goal.returns
returns c = next-none _ _ _ _ c.loop-at.invariant (omega arith)
