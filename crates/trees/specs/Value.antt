-- The value of a branch length (request 2026-03). Length.antt says which tokens are lengths; the definitions here are read of those.
--
--   joined_digits w   the digits of the length w without the point, as a whole number
--   exponent r       the exponent r, with its e and its sign; 0 where there is none
--   power w          the power of ten of the length w
--   inside p         the power of ten p is in the exact range
--   scaled n p       the double of n times 10 ^ p
--   signed t n x     x, or x negated where t says that a minus sign stands before n and n is not 0
--   measured t n p   the value by sign, whole number and power of ten; none outside the exact range
--   length_of w       the value of the length w; none outside the exact range
--   proper x         the double x is finite and not minus zero
--   Length           a length, or none
use Rattle.std.specs.Prelude.{ℕ, suc, ◌+◌, ◌-◌, ◌*◌, ◌^◌, Bool, false, not, ◌&&◌, List, [], ◌∷◌, leb, eqb, ℤ, pos, negsuc, neg_ℤ, ◌-ℤ◌, Float, length, if◌then◌else◌}
use Rattle.std.proofs.Math.Option.{Option, none, some}
use Rattle.std.specs.Float.{nan, inf, fin, binary64}
use Rattle.std.specs.Float.Ieee.{round, neg}
use Rattle.trees.specs.Plain.{byte}
use Rattle.trees.specs.Length.{is_point, unsigned, without_point, before_e, from_e}

-- the number n with the digits w written behind it
unfoldable pub number_from : ℕ → List ℕ → ℕ
number_from n [] = n
number_from n (b ∷ w) = number_from (10 * n + (b - byte "0")) w

-- w begins with a minus sign
unfoldable pub is_minus : List ℕ → Bool
is_minus [] = false
is_minus (b ∷ w) = eqb b (byte "-")

-- w behind its first point
unfoldable pub behind_point : List ℕ → List ℕ
unfolding is_point
behind_point [] = []
behind_point (b ∷ w) = if is_point b then w else behind_point w

-- "Join a length's digits without the point to a whole number"; the digits of the exponent are not among them
unfoldable pub joined_digits : List ℕ → ℕ
unfolding number_from without_point unsigned before_e
joined_digits w = number_from 0 (without_point (unsigned (before_e w)))

-- a whole number with its sign
abbrev pub with_sign : Bool → ℕ → ℤ
with_sign minus n = if minus then neg_ℤ (pos n) else pos n

-- "optionally e or E, optional sign, one or more digits"
unfoldable pub exponent : List ℕ → ℤ
unfolding number_from unsigned is_minus
exponent [] = pos 0
exponent (e ∷ w) = with_sign (is_minus w) (number_from 0 (unsigned w))

-- "its power of ten": the exponent, less one for each digit behind the point
unfoldable pub power : List ℕ → ℤ
unfolding exponent from_e behind_point before_e
power w = exponent (from_e w) -ℤ pos (length (behind_point (before_e w)))

-- "its power of ten lies from −22 to 22"; `negsuc k` is minus k + 1
unfoldable pub inside : ℤ → Bool
inside (pos k) = leb k 22
inside (negsuc k) = leb (suc k) 22

-- "that number as a double times or divided by the power of ten, rounded once": `round` gives the double nearest to a fraction
unfoldable pub scaled : ℕ → ℤ → Float
unfolding round
scaled n (pos k) = round binary64 false (n * 10 ^ k) 1
scaled n (negsuc k) = round binary64 false n (10 ^ suc k)

-- "a minus sign negates it, and zero is plus zero"
unfoldable pub signed : Bool → ℕ → Float → Float
unfolding neg
signed minus n x = if minus && not (eqb n 0) then neg x else x

-- "a whole number of at most 2^53; its power of ten lies from −22 to 22": all else is "outside the exact range"
unfoldable pub measured : Bool → ℕ → ℤ → Option Float
unfolding inside scaled signed
measured minus n p = if leb n (2 ^ 53) && inside p then some (signed minus n (scaled n p)) else none

unfoldable pub length_of : List ℕ → Option Float
unfolding measured is_minus joined_digits power
length_of w = measured (is_minus w) (joined_digits w) (power w)

-- "finite and not minus zero": `fin s m e` is m times 2 ^ e, negated where s is true
unfoldable pub proper : Float → Bool
proper nan = false
proper (inf s) = false
proper (fin s m e) = not (s && eqb m 0)

-- "A branch has a length or has none."
abbrev pub Length : Type 0
Length = Option Float
