-- Words of a line: numbers in decimal digits.
--
--   decimal_of w      the number that the digits w are, if it fits 64 bits
use Rattle.std.specs.Prelude.{ℕ, ◌+◌, ◌-◌, ◌*◌, ◌^◌, ◌&&◌, List, [], ◌∷◌, ltb, if◌then◌else◌}
use Rattle.std.proofs.Math.Option.{Option, none, some}
use Rattle.trees.specs.Length.{is_digit}

-- the number v, with the digits w behind it
unfoldable pub decimal_from : ℕ → List ℕ → Option ℕ
unfolding is_digit
decimal_from v [] = some v
decimal_from v (b ∷ w) = if is_digit b && ltb (v * 10 + (b - 48)) (2 ^ 64) then decimal_from (v * 10 + (b - 48)) w else none

-- no digits are no number
unfoldable pub decimal_of : List ℕ → Option ℕ
unfolding decimal_from
decimal_of [] = none
decimal_of (b ∷ w) = decimal_from 0 (b ∷ w)
