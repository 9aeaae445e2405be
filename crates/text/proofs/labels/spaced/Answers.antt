-- `text::labels::spaced` meets its contract. Assumes nothing.
use mathlib.Core.Path.{sym}
use borrow.Author.Tests.{eq-eqb, ne_eqb}
use Rattle.trees.specs.Text.{spaced}
use Rattle.theorems.specs.ListLaws.{if-true, if-false}
use Rattle.text.proofs.labels.spaced.Goals as goal

pub returns-then-b-eq95 : goal.returns-then-b-eq95
unfolding spaced
returns-then-b-eq95 c = sym (if-true _ _ (eq-eqb _ _ c.if-b-eq95.true))

pub returns : goal.returns
unfolding spaced
returns c = sym (if-false _ _ (ne_eqb _ _ c.if-b-eq95.false))
