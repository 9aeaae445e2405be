-- `masks::lowest_taxon` meets its contract. Assumes nothing.
use mathlib.Core.Path.{sym}
use native.Mathlib.Omega.{arith}
use Rattle.masks.specs.MaskLaws.{trailing-lowest, trailing_lt, lowest-none}
use Rattle.masks.proofs.lowest_taxon.Goals as goal

pub returns-then-m-eq0 : goal.returns-then-m-eq0
returns-then-m-eq0 c = record { result_value = rw c.if-m-eq0.true (sym lowest-none); result_bound = omega arith }

pub returns : goal.returns
returns c = record { result_value = trailing-lowest 64 _ c.ranges.m.fits (omega arith); result_bound = trailing_lt 64 _ c.ranges.m.fits (omega arith) }
