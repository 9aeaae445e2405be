use native.Mathlib.Omega.{arith}
use Rattle.nexus.specs.CommandLaws.{passed_first, passed-more, command-here, command-open, command-last}
use Rattle.nexus.proofs.commands.command_end.Goals as goal

pub loop-at-init : goal.loop-at-init
loop-at-init c = passed_first _ _ _ c.past_plain-at.ensures

pub returns-then-s-at-eq59 : goal.returns-then-s-at-eq59
returns-then-s-at-eq59 c = command-here _ _ _ c.loop-at.invariant (omega arith) c.if-s-at-eq59.true

pub returns-then-s-end : goal.returns-then-s-end
returns-then-s-end c =
    command-open _ _ _ c.loop-at.invariant _ _ (omega arith) c.if-s-at-eq59.false c.closing.ensures c.past_next-end.ensures
    (omega arith)

pub loop-at-smaller : goal.loop-at-smaller
loop-at-smaller c =
    let e = (c.past_next-end.ensures.found (omega arith)).0 in
    omega (arith, e, c.past_plain-at-in-loop-at.ensures.past)

pub loop-at-preserved : goal.loop-at-preserved
loop-at-preserved c =
    passed-more _ _ _ c.loop-at.invariant _ _ _ (omega arith) c.if-s-at-eq59.false c.closing.ensures
    c.past_next-end.ensures (omega arith) c.past_plain-at-in-loop-at.ensures

pub returns : goal.returns
returns c = command-last _ _ _ c.loop-at.invariant (omega arith)
