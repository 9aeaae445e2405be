-- `lengths::has_e` meets its contract. Assumes nothing.
use borrow.Author.Tests.{lt-ltb, le-ltb, eq-eqb, ne_eqb}
use Rattle.trees.specs.Length.{is_e}
use Rattle.lengths.specs.Read.{has_e}
use Rattle.lengths.proofs.has_e.Goals as goal

pub returns-then-b-eq101 : goal.returns-then-b-eq101
unfolding has_e is_e
returns-then-b-eq101 c = simp (lt-ltb _ _ c.if-at-text.true, eq-eqb _ _ c.if-b-eq101.true)

pub returns-then-at-text : goal.returns-then-at-text
unfolding has_e is_e
returns-then-at-text c = simp (lt-ltb _ _ c.if-at-text.true, ne_eqb _ _ c.if-b-eq101.false)

pub returns : goal.returns
unfolding has_e
returns c = simp (le-ltb _ _ c.if-at-text.false)
