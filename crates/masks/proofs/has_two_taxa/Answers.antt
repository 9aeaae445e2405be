-- `masks::has_two_taxa` meets its contract. Assumes nothing.
use mathlib.Core.Path.{sym}
use native.Mathlib.Omega.{arith}
use Rattle.masks.specs.MaskLaws.{two_none, two-less}
use Rattle.masks.proofs.has_two_taxa.Goals as goal

pub returns-then-m-eq0 : goal.returns-then-m-eq0
returns-then-m-eq0 c = sym (rw c.if-m-eq0.true two_none)

pub overflow_sub-result : goal.overflow_sub-result
overflow_sub-result c = omega (arith, c.if-m-eq0.false)

pub returns : goal.returns
returns c = two-less _ (omega (arith, c.if-m-eq0.false))
