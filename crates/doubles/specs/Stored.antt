-- A branch's length, or none, kept in 8 bytes of a list: a double, or 8 bytes of 255 for none.
--
--   branch_given r        a length of the code, as crate trees has it
--   length_at s at        the length in the 8 bytes of s from at
--   good_length_at s at    these bytes hold none, or a double that is finite and not minus zero
--   put_length s at x     s with x in the 8 bytes from at
use Rattle.std.specs.Prelude.{ℕ, Bool, List, eqb, if◌then◌else◌, Option, None, Some, Float}
use Rattle.std.proofs.Math.Option.{none, some}
use Rattle.trees.specs.Value.{Length}
use Rattle.trees.specs.Whole.{good_length}
use Rattle.fields.specs.Field.{number, put}
use Rattle.doubles.specs.Double.{double_at, put_double}

-- "A branch has a length or has none."
unfoldable pub branch_given : Option Float → Length
branch_given None = none
branch_given (Some x) = some x

-- 8 bytes of 255, as a number; no double that may be stored has these bits
abbrev pub all_ones : ℕ
all_ones = 0xffff_ffff_ffff_ffff

unfoldable pub length_at : List ℕ → ℕ → Length
unfolding number double_at
length_at s at = if eqb (number 8 s at) all_ones then none else some (double_at s at)

unfoldable pub good_length_at : List ℕ → ℕ → Bool
unfolding good_length length_at
good_length_at s at = good_length (length_at s at)

unfoldable pub put_length : List ℕ → ℕ → Length → List ℕ
unfolding put put_double
put_length s at none = put 8 s at all_ones
put_length s at (some x) = put_double s at x
