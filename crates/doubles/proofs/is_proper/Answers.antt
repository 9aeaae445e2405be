-- `doubles::is_proper` meets its contract. Assumes nothing.
use mathlib.Core.Path.{sym, ◌∙◌}
use borrow.Author.Tests.{eq-eqb, ne_eqb}
use Rattle.theorems.specs.ProperDoubleLaws.{proper-bits}
use Rattle.doubles.proofs.is_proper.Goals as goal

pub returns-then-bits-eq9223372036854775808 : goal.returns-then-bits-eq9223372036854775808
returns-then-bits-eq9223372036854775808 c = sym (proper-bits _ c.ranges.bits.fits ∙ rw (eq-eqb _ _ c.if-bits-eq9223372036854775808.true))

pub returns : goal.returns
returns c = sym (proper-bits _ c.ranges.bits.fits ∙ rw (ne_eqb _ _ c.if-bits-eq9223372036854775808.false))
