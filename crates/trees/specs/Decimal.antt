-- Numbers in decimal digits.
--
--   digits_of n         the number n in decimal digits
--   number_in most w    the number that the digits w are, unless it is above most; leading zeros are allowed
use Rattle.std.specs.Prelude.{ℕ, zero, suc, ◌+◌, ◌/◌, ◌%◌, true, false, ◌&&◌, List, [], ◌∷◌, ◌++◌, leb, ltb, if◌then◌else◌}
use Rattle.std.proofs.Math.Option.{Option, none, some}
use Rattle.trees.specs.Plain.{byte}
use Rattle.trees.specs.Length.{is_digits}
use Rattle.trees.specs.Value.{number_from}

-- f is more than enough steps
unfoldable pub digits_from : ℕ → ℕ → List ℕ
digits_from zero n = []
digits_from (suc f) n = elim (ltb n 10) [ true ↦ (byte "0" + n) ∷ [] | false ↦ digits_from f (n / 10) ++ (byte "0" + n % 10) ∷ [] ]

unfoldable pub digits_of : ℕ → List ℕ
unfolding digits_from
digits_of n = digits_from (suc n) n

-- "all numbers in decimal digits"
unfoldable pub number_in : ℕ → List ℕ → Option ℕ
unfolding is_digits number_from
number_in most w = if is_digits w && leb (number_from 0 w) most then some (number_from 0 w) else none
