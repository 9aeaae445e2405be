-- A double kept in 8 bytes of a list, as its 64 bits, the lowest byte first.
--
--   double_at s at      the double in the 8 bytes of s from at
--   put_double s at x   s with x in the 8 bytes from at
use Rattle.std.specs.Prelude.{ℕ, List, Float}
use Rattle.std.specs.Float.{binary64}
use Rattle.std.specs.Float.Ieee.{of_bits, to_bits}
use Rattle.fields.specs.Field.{number, put}

unfoldable pub double_at : List ℕ → ℕ → Float
unfolding number of_bits
double_at s at = of_bits binary64 (number 8 s at)

unfoldable pub put_double : List ℕ → ℕ → Float → List ℕ
unfolding put to_bits
put_double s at x = put 8 s at (to_bits binary64 x)
