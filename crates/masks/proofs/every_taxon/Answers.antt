-- `masks::every_taxon` meets its contract. Assumes nothing.
use lib.Pow.{pow_pos}
use Rattle.trees.specs.Mask.{every_taxon}
use Rattle.masks.specs.MaskLaws.{shift_one}
use native.Mathlib.Omega.{arith}
use Rattle.masks.proofs.every_taxon.Goals as goal

pub returns-then-n-eq64 : goal.returns-then-n-eq64
unfolding every_taxon
returns-then-n-eq64 c = rw c.if-n-eq64.true

pub overflow_sub-result : goal.overflow_sub-result
overflow_sub-result c = rw (shift_one 64 c.args.n (omega arith)) (pow_pos _)

pub returns : goal.returns
unfolding every_taxon
returns c = rw (shift_one 64 c.args.n (omega arith))
