-- `colliding::one_if_equal` meets its contract. Assumes nothing.
use native.Mathlib.Omega.{arith}
use borrow.Author.Tests.{eq-eqb, ne_eqb}
use Rattle.layout.specs.UpToLaws.{one_if}
use Rattle.colliding.proofs.one_if_equal.Goals as goal

pub returns-then-p-q : goal.returns-then-p-q
unfolding one_if
returns-then-p-q c = record { value = rw (ne_eqb _ _ c.if-p-q.true); upper_bound = omega arith }

pub returns-then-x-y : goal.returns-then-x-y
unfolding one_if
returns-then-x-y c = record { value = rw (eq-eqb _ _ c.if-p-q.false, eq-eqb _ _ c.if-x-y.true); upper_bound = omega arith }

pub returns : goal.returns
unfolding one_if
returns c = record { value = rw (eq-eqb _ _ c.if-p-q.false, ne_eqb _ _ c.if-x-y.false); upper_bound = omega arith }
