-- `lengths::with_sign` meets its contract. Assumes nothing.
use borrow.Author.Tests.{eq-eqb, ne_eqb}
use Rattle.trees.specs.Value.{signed}
use Rattle.lengths.proofs.with_sign.Goals as goal

pub returns-then-n-ne0 : goal.returns-then-n-ne0
unfolding signed
returns-then-n-ne0 c = rw (c.if-minus.true, ne_eqb _ _ c.if-n-ne0.true)

pub returns-else-n-ne0 : goal.returns-else-n-ne0
unfolding signed
returns-else-n-ne0 c = rw (c.if-minus.true, eq-eqb _ _ c.if-n-ne0.false)

pub returns-else-minus : goal.returns-else-minus
unfolding signed
returns-else-minus c = rw c.if-minus.false
