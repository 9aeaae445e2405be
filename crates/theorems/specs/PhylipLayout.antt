-- Every way to lay out a matrix as request 2026-07 has it, apart from how it is read.
--
--   Number             a value in a row: how many spaces stand before it, and its digits
--   Row                a row: its name and its numbers
--   Layout             a text: the digits of its first line, and its rows
--   line_of r, text_of l       the bytes of the row r before its LF, and of the layout l
--   worth x, row_of r, matrix_in l     what the number x is worth, the values of the row r and the matrix of the layout l
--   Sound l            each part of the layout l is as request 2026-07 says
--   LaidOut f q        the text f is laid out so, and its matrix is q
--   Even q             the matrix q is symmetric, and its diagonal zero
--   Uneven q           a value differs from the one across the diagonal, or one on the diagonal is not 0
use Rattle.std.specs.Prelude.{ℕ, ◌≤◌, ◌<◌, ◌≡◌, ◌⊎◌, true, length, replicate}
use mathlib.Core.List.{List, [], ◌∷◌, ◌++◌, map, flat_map}
use Rattle.trees.specs.Plain.{byte}
use Rattle.trees.specs.Length.{is_digits}
use Rattle.trees.specs.Value.{number_from}
use Rattle.trees.specs.Phylip.{Square, entry}
use Rattle.theorems.specs.ListLaws.{Mem}

-- ---- the parts of a text

pub record Number : Type 0 where
  pub spaces : ℕ
  pub digits : List ℕ

pub record Row : Type 0 where
  pub name : List ℕ
  pub numbers : List Number

pub record Layout : Type 0 where
  pub first : List ℕ
  pub rows : List Row

-- ---- their bytes

abbrev pub number_text : Number → List ℕ
number_text x = replicate x.spaces (byte " ") ++ x.digits

abbrev pub line_of : Row → List ℕ
line_of r = r.name ++ flat_map number_text r.numbers

-- "Every line ends with LF"
abbrev pub text_of : Layout → List ℕ
text_of l = l.first ++ byte "\n" ∷ flat_map (λ r. line_of r ++ byte "\n" ∷ []) l.rows

-- ---- what they say

abbrev pub worth : Number → ℕ
worth x = number_from 0 x.digits

abbrev pub row_of : Row → List ℕ
row_of r = map worth r.numbers

-- row by row
abbrev pub matrix_in : Layout → Square
matrix_in l = record { trees = length l.rows; values = flat_map row_of l.rows }

-- ---- what request 2026-07 asks of them

-- "one space or more before a value, all numbers in decimal digits, values up to 65,535"
pub record SoundNumber (x : Number) : Type 0 where
  pub spaced : 1 ≤ x.spaces
  pub are-digits : is_digits x.digits ≡ true
  pub no_more : worth x ≤ 65535

-- "names of any ten bytes from 32 to 126", and a value for each tree
pub record SoundRow (t : ℕ) (r : Row) : Type 0 where
  pub ten-bytes : length r.name ≡ 10
  pub shown-bytes : (b : ℕ) → Mem b r.name → (32 ≤ b) × (b ≤ 126)
  pub one_each : length r.numbers ≡ t
  pub numbers-sound : (x : Number) → Mem x r.numbers → SoundNumber x

-- "a line with the number of trees", "0 to 1,024 trees", "one line a row"
pub record Sound (l : Layout) : Type 0 where
  pub first-digits : is_digits l.first ≡ true
  pub first-number : number_from 0 l.first ≡ length l.rows
  pub few-trees : length l.rows ≤ 1024
  pub rows-sound : (r : Row) → Mem r l.rows → SoundRow (length l.rows) r

abbrev pub LaidOut : List ℕ → Square → Type 0
LaidOut f q = (l : Layout) × Sound l × (text_of l ≡ f) × (matrix_in l ≡ q)

-- ---- what it asks of the matrix

pub record Even (q : Square) : Type 0 where
  pub diagonal : (i : ℕ) → i < q.trees → entry q i i ≡ 0
  pub across : (i j : ℕ) → i < q.trees → j < q.trees → entry q i j ≡ entry q j i

-- "not symmetric or diagonal not zero"
abbrev pub Uneven : Square → Type 0
Uneven q =
    ((i : ℕ) × (j : ℕ) × (i < q.trees) × (j < q.trees) × (entry q i j ≡ entry q j i → ⊥))
    ⊎ ((i : ℕ) × (i < q.trees) × (entry q i i ≡ 0 → ⊥))
