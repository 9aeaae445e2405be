-- `writer::child_mask` meets its contract: a leaf's taxon, or the node's mask. Assumes nothing.
use mathlib.Core.Path.{sym, ◌∙◌}
use borrow.Author.Tests.{eqb-true, eqb-false}
use Rattle.writer.specs.BranchLaws.{mask-leaf, mask-inner}
use Rattle.writer.proofs.child_mask.Goals as goal

pub returns-then-is_empty : goal.returns-then-is_empty
returns-then-is_empty c = c.only_taxon.ensures ∙ sym (mask-leaf _ _ (eqb-true _ _ (sym c.is_empty.ensures ∙ c.if-is_empty.true)))

pub returns : goal.returns
returns c = sym (mask-inner _ _ (eqb-false _ _ (sym c.is_empty.ensures ∙ c.if-is_empty.false)))
