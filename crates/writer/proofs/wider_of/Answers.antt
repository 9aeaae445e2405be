-- `writer::wider_of` meets its contract: its three tests are those of `wider`. Assumes nothing.
use mathlib.Core.Path.{sym, ◌∙◌}
use mathlib.Core.Bool.{and-false}
use Rattle.trees.specs.Written.{wider}
use Rattle.writer.proofs.wider_of.Goals as goal

pub returns-then-comes_before-2 : goal.returns-then-comes_before-2
unfolding wider
returns-then-comes_before-2 c =
    simp (
      sym c.has_taxon.ensures ∙ c.if-has_taxon.true,
      sym c.comes_before.ensures ∙ c.if-comes_before.true,
      sym c.comes_before-then-comes_before.ensures ∙ c.if-comes_before-2.true,
    )

pub returns-else-comes_before-2 : goal.returns-else-comes_before-2
unfolding wider
returns-else-comes_before-2 c = simp (sym c.comes_before-then-comes_before.ensures ∙ c.if-comes_before-2.false)

pub returns-else-comes_before : goal.returns-else-comes_before
unfolding wider
returns-else-comes_before c = simp (sym c.comes_before.ensures ∙ c.if-comes_before.false, and-false)

pub returns-else-has_taxon : goal.returns-else-has_taxon
unfolding wider
returns-else-has_taxon c = simp (sym c.has_taxon.ensures ∙ c.if-has_taxon.false, and-false)
