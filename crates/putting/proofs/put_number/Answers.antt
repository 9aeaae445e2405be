-- `putting::put_number` meets its contract. Assumes nothing.
use native.Mathlib.Omega.{arith}
use Rattle.putting.specs.WritingLaws.{number_put, number-ends}
use Rattle.putting.specs.DigitLaws.{digits-few}
use Rattle.putting.proofs.put_number.Goals as goal

pub put_word-requires : goal.put_word-requires
put_word-requires c = omega (arith, c.decimal-k.ensures.in_bounds.1, digits-few _ _ c.decimal-k.ensures.len (omega arith))

pub returns : goal.returns
returns c = let p = c.put_word.ensures in record { put = number_put _ _ _ _ _ _ _ c.decimal-k.ensures.len c.decimal-k.ensures.in_bounds.1 c.decimal-k.ensures.digits p; upper_bound = number-ends _ _ _ _ _ _ _ c.decimal-k.ensures.len c.decimal-k.ensures.in_bounds.1 c.decimal-k.ensures.digits p (omega arith) }
