use native.Mathlib.Omega.{arith}
use Rattle.nexus.specs.CommentLaws.{blanks-none, blanks-more, skipped-here, skipped-all}
use Rattle.nexus.proofs.comments.skip.Goals as goal

pub loop-at-init : goal.loop-at-init
loop-at-init c = blanks-none _ _ c.requires

pub returns-then-next-at : goal.returns-then-next-at
returns-then-next-at c = skipped-here _ _ _ c.loop-at.invariant _ c.past_blank-next.ensures c.if-next-at.true

pub loop-at-smaller : goal.loop-at-smaller
loop-at-smaller c = omega (arith, (c.past_blank-next.ensures.past c.if-next-at.false).0, c.past_blank-next.ensures.within)

pub loop-at-preserved : goal.loop-at-preserved
loop-at-preserved c = blanks-more _ _ _ c.loop-at.invariant _ c.past_blank-next.ensures c.if-next-at.false

pub returns : goal.returns
returns c = skipped-all _ _ _ c.loop-at.invariant (omega arith)
