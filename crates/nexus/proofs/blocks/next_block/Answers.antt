use mathlib.Core.Path.{subst}
use borrow.Author.Rules.{rules}
use Rattle.nexus.specs.Commands.{BegunAs}
use Rattle.nexus.specs.Blocks.{OtherEnd}
use Rattle.nexus.specs.BlockLaws.{outside-none, outside-last, outside-trees, outside-wrong, outside-more, outside-less, outside-never}
use Rattle.nexus.proofs.blocks.next_block.Goals as goal

pub loop-from-init : goal.loop-from-init
loop-from-init c = outside-none _ _ (search rules)

pub returns-then-end-f : goal.returns-then-end-f
returns-then-end-f c = outside-last _ _ _ _ c.loop-from.invariant c.command_end-end.ensures c.if-end-f.true

pub returns-in-Trees : goal.returns-in-Trees
returns-in-Trees c =
    outside-trees _ _ _ _ c.loop-from.invariant c.command_end-end.ensures
    c.if-end-f.false
    (subst (BegunAs _) c.in-Trees.is c.block_begun-b.ensures)

pub returns-in-Wrong : goal.returns-in-Wrong
returns-in-Wrong c =
    outside-wrong _ _ _ _ c.loop-from.invariant c.command_end-end.ensures
    c.if-end-f.false
    (subst (BegunAs _) c.in-Wrong.is c.block_begun-b.ensures)

pub returns-in_default : goal.returns-in_default
returns-in_default c =
    outside-never _ _ _ _ c.loop-from.invariant c.command_end-end.ensures c.if-end-f.false
    (subst (BegunAs _) c.in-Other.is c.block_begun-b.ensures)
    (subst (OtherEnd _ _) c.in_default.is c.past_other.ensures)

pub loop-from-smaller : goal.loop-from-smaller
loop-from-smaller c = outside-less _ _ _ _ c.command_end-end.ensures.past (subst (OtherEnd _ _) c.in-Some.is c.past_other.ensures)

pub loop-from-preserved : goal.loop-from-preserved
loop-from-preserved c =
    outside-more _ _ _ _ c.loop-from.invariant
    c.command_end-end.ensures c.if-end-f.false
    (subst (BegunAs _) c.in-Other.is c.block_begun-b.ensures) _ (subst (OtherEnd _ _) c.in-Some.is c.past_other.ensures)
