-- Lengths, read byte by byte: the classes of bytes and the moves between them. That this accepts exactly the lengths of crate trees is a law of the proofs.
--
--   byte_class b      the class of a byte: 0 a digit, 1 a sign, 2 the point, 3 e or E, 4 any other
--   move q k         what a length that had come to q comes to with a byte of the class k:
--                    0 nothing, 1 a sign, 2 digits, 3 a point and no digit, 4 a point and a digit, 5 e, 6 e and a sign, 7 e and digits, 8 a fault
--   run q w          what it comes to with the bytes w
--   is_end q          a length may end there
use Rattle.std.specs.Prelude.{ℕ, Bool, ◌||◌, List, [], ◌∷◌, eqb, get_or, if◌then◌else◌}
use Rattle.trees.specs.Length.{is_digit, is_sign, is_point, is_e}

unfoldable pub byte_class : ℕ → ℕ
unfolding is_digit is_sign is_point is_e
byte_class b = if is_digit b then 0 else if is_sign b then 1 else if is_point b then 2 else if is_e b then 3 else 4

-- a row for each q, a column for each class
moves : List (List ℕ)
moves =
    (2 ∷ 1 ∷ 3 ∷ 8 ∷ 8 ∷ [])
    ∷ (2 ∷ 8 ∷ 3 ∷ 8 ∷ 8 ∷ [])
    ∷ (2 ∷ 8 ∷ 4 ∷ 5 ∷ 8 ∷ [])
    ∷ (4 ∷ 8 ∷ 8 ∷ 8 ∷ 8 ∷ [])
    ∷ (4 ∷ 8 ∷ 8 ∷ 5 ∷ 8 ∷ [])
    ∷ (7 ∷ 6 ∷ 8 ∷ 8 ∷ 8 ∷ [])
    ∷ (7 ∷ 8 ∷ 8 ∷ 8 ∷ 8 ∷ [])
    ∷ (7 ∷ 8 ∷ 8 ∷ 8 ∷ 8 ∷ [])
    ∷ (8 ∷ 8 ∷ 8 ∷ 8 ∷ 8 ∷ [])
    ∷ []

unfoldable pub move : ℕ → ℕ → ℕ
unfolding moves
move q k = get_or (get_or moves q []) k 8

unfoldable pub run : ℕ → List ℕ → ℕ
unfolding move byte_class
run q [] = q
run q (b ∷ w) = run (move q (byte_class b)) w

abbrev pub is_end : ℕ → Bool
is_end q = eqb q 2 || eqb q 4 || eqb q 7
