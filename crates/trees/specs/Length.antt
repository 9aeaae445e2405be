-- Branch lengths: which tokens are one. Value.antt says what they are worth.
--
--   is_length w      the token w is a length
use Rattle.std.specs.Prelude.{ℕ, Bool, true, false, ◌&&◌, ◌||◌, List, [], ◌∷◌, leb, eqb, if◌then◌else◌}
use Rattle.trees.specs.Plain.{every, byte}

-- 0 to 9
unfoldable pub is_digit : ℕ → Bool
is_digit b = leb (byte "0") b && leb b (byte "9")

-- + or -
unfoldable pub is_sign : ℕ → Bool
is_sign b = eqb b (byte "+") || eqb b (byte "-")

-- the point
unfoldable pub is_point : ℕ → Bool
is_point b = eqb b (byte ".")

-- e or E
unfoldable pub is_e : ℕ → Bool
is_e b = eqb b (byte "e") || eqb b (byte "E")

-- "one or more digits"
unfoldable pub is_digits : List ℕ → Bool
unfolding every is_digit
is_digits [] = false
is_digits (b ∷ w) = every is_digit (b ∷ w)

-- "optional sign": w behind its sign, if it has one
unfoldable pub unsigned : List ℕ → List ℕ
unfolding is_sign
unsigned [] = []
unsigned (b ∷ w) = if is_sign b then w else b ∷ w

-- w without its first point
unfoldable pub without_point : List ℕ → List ℕ
unfolding is_point
without_point [] = []
without_point (b ∷ w) = if is_point b then w else b ∷ without_point w

-- w up to its first e or E, and from there on
unfoldable pub before_e : List ℕ → List ℕ
unfolding is_e
before_e [] = []
before_e (b ∷ w) = if is_e b then [] else b ∷ before_e w

unfoldable pub from_e : List ℕ → List ℕ
unfolding is_e
from_e [] = []
from_e (b ∷ w) = if is_e b then b ∷ w else from_e w

-- "optional sign, digits with at most one point among or beside them, at least one digit"
unfoldable pub is_decimal : List ℕ → Bool
unfolding is_digits without_point unsigned
is_decimal w = is_digits (without_point (unsigned w))

-- "and optionally e or E, optional sign, one or more digits"
unfoldable pub is_exponent : List ℕ → Bool
unfolding is_digits unsigned
is_exponent [] = true
is_exponent (e ∷ w) = is_digits (unsigned w)

-- "A length is one token"
unfoldable pub is_length : List ℕ → Bool
unfolding is_decimal is_exponent before_e from_e
is_length w = is_decimal (before_e w) && is_exponent (from_e w)
