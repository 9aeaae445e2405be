-- `writer::names::underscored` meets its contract. Assumes nothing.
use mathlib.Core.Path.{sym}
use borrow.Author.Tests.{eq-eqb, ne_eqb}
use Rattle.trees.specs.Written.{underscored}
use Rattle.theorems.specs.ListLaws.{if-true, if-false}
use Rattle.writer.proofs.names.underscored.Goals as goal

pub returns-then-b-eq32 : goal.returns-then-b-eq32
unfolding underscored
returns-then-b-eq32 c = sym (if-true _ _ (eq-eqb _ _ c.if-b-eq32.true))

pub returns : goal.returns
unfolding underscored
returns c = sym (if-false _ _ (ne_eqb _ _ c.if-b-eq32.false))
