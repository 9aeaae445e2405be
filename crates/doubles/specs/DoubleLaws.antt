-- A double in bytes: what was put is read, bit for bit. Assumes nothing.
use Rattle.std.specs.Prelude.{◌≡◌, ℕ, ◌+◌, ◌≤◌, List, T, length, Float}
use Rattle.std.proofs.Common.{ap, ◌∙◌}
use Rattle.std.specs.Float.{binary64}
use Rattle.std.specs.Float.Ieee.{fits, of_bits, to_bits}
use Rattle.std.specs.Float.Ieee.Bits.{of_bits-to_bits, to_bits-lt}
use Rattle.fields.specs.FieldLaws.{number_put}
use Rattle.doubles.specs.Double.{double_at, put_double}

pub double-put : (s : List ℕ) (at : ℕ) (x : Float) → at + 8 ≤ length s → T (fits binary64 x) → double_at (put_double s at x) at ≡ x
unfolding double_at put_double
double-put s at x h f = ap (of_bits binary64) (number_put 8 s at (to_bits binary64 x) h (to_bits-lt binary64 x f)) ∙ of_bits-to_bits binary64 x f
