use mathlib.Core.Path.{sym, ◌∙◌}
use native.Mathlib.Omega.{arith}
use borrow.Author.Rules.{rules}
use Rattle.nexus.specs.BlockLaws.{beyond-none, beyond-more, beyond-good, beyond-fault}
use Rattle.nexus.proofs.blocks.past_other.Goals as goal

pub loop-from-init : goal.loop-from-init
loop-from-init c = beyond-none _ _ (search rules)

pub returns-then-end-f : goal.returns-then-end-f
returns-then-end-f c = beyond-fault _ _ _ _ c.loop-from.invariant c.command_end-end.ensures c.if-end-f.true

pub ends_other-requires : goal.ends_other-requires
ends_other-requires c = c.command_end-end.ensures.paired (omega (arith, c.if-end-f.false, c.command_end-end.ensures.within))

pub returns-then-ends_other : goal.returns-then-ends_other
returns-then-ends_other c =
    beyond-good _ _ _ _ c.loop-from.invariant
    c.command_end-end.ensures c.if-end-f.false
    (sym c.ends_other.ensures ∙ c.if-ends_other.true)

pub loop-from-preserved : goal.loop-from-preserved
loop-from-preserved c =
    beyond-more _ _ _ _ c.loop-from.invariant
    c.command_end-end.ensures c.if-end-f.false
    (sym c.ends_other.ensures ∙ c.if-ends_other.false)
