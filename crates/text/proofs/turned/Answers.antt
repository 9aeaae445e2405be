-- `text::turned` meets its contract: the definition's two cases. Assumes nothing.
use mathlib.Core.Path.{sym}
use borrow.Author.Tests.{eq-eqb, ne_eqb}
use Rattle.theorems.specs.ListLaws.{if-true}
use Rattle.theorems.specs.QuoteLaws.{other-turned}
use Rattle.trees.specs.Text.{turned}
use Rattle.text.proofs.turned.Goals as goal

pub returns-then-b-eq39 : goal.returns-then-b-eq39
unfolding turned
returns-then-b-eq39 c = sym (if-true _ _ (eq-eqb _ _ c.if-b-eq39.true))

pub returns : goal.returns
returns c = sym (other-turned _ _ (ne_eqb _ _ c.if-b-eq39.false))
