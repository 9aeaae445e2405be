-- `masks::side` meets its contract. Assumes nothing.
use mathlib.Core.Path.{sym}
use native.Mathlib.Omega.{arith}
use Rattle.trees.specs.Mask.{every_taxon}
use Rattle.theorems.specs.BitLaws.{on-first, first_on}
use Rattle.theorems.specs.MaskLaws.{side-odd, side-even}
use Rattle.masks.proofs.side.Goals as goal

pub overflow_sub-result : goal.overflow_sub-result
unfolding every_taxon
overflow_sub-result c = omega arith

pub returns-then-m-eq1 : goal.returns-then-m-eq1
returns-then-m-eq1 c = rw c.every_taxon.ensures (sym (side-odd _ _ (on-first _ c.if-m-eq1.true)))

pub returns : goal.returns
returns c = sym (side-even _ _ (λ o. c.if-m-eq1.false (first_on _ o)))
