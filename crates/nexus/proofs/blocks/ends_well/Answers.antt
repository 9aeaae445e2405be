-- `nexus::blocks::ends_well` meets its contract, by what stands behind the other blocks. Assumes nothing.
use mathlib.Core.Path.{sym, subst}
use mathlib.Core.Bool.{true≢false}
use borrow.Author.Tests.{eqb-true, eqb-false}
use Rattle.nexus.specs.Blocks.{NextAs}
use Rattle.nexus.specs.BlockLaws.{ends-trees, ends-wrong, ends-blank, ends-else}
use Rattle.nexus.proofs.blocks.ends_well.Goals as goal

pub skip-requires : goal.skip-requires
skip-requires c = unfold NextAs in (subst (NextAs _ _) c.in-Last.is c.next_block-next.ensures).0

pub returns-in-Trees : goal.returns-in-Trees
returns-in-Trees c = record { well = λ e. absurd (true≢false (sym e)); not = λ e. ends-trees _ _ _ (subst (NextAs _ _) c.in-Trees.is c.next_block-next.ensures) }

pub returns-in-Wrong : goal.returns-in-Wrong
returns-in-Wrong c = record { well = λ e. absurd (true≢false (sym e)); not = λ e. ends-wrong _ _ (subst (NextAs _ _) c.in-Wrong.is c.next_block-next.ensures) }

pub returns-in-Last : goal.returns-in-Last
returns-in-Last c =
    let n = subst (NextAs _ _) c.in-Last.is c.next_block-next.ensures in
    record { well = λ e. ends-blank _ _ _ _ n c.skip.ensures (eqb-true _ _ e); not = λ e. ends-else _ _ _ _ n c.skip.ensures (eqb-false _ _ e) }
