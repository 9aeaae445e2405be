-- Distance matrices in PHYLIP's square layout: what is written, and what is read.
--
--   name_of i            the name of tree i
--   padded w            the name w, with spaces behind it up to ten bytes
--   row_text i vs        the line of tree i, whose values are vs
--   square_text rows     the text of the rows of a matrix
--   between x s         the parts of s between its bytes x
--   values_in s          the values that s is, each behind a space or more, or nothing
--   row_in t r           the values of the line r, of t trees, or nothing
--   Square              a matrix that is read: how many trees, and the values, row by row
--   square_in f          the matrix that the text f is, or nothing where it is malformed
--   symmetric q         the matrix q is symmetric, and its diagonal zero
use Rattle.std.specs.Prelude.{ℕ, zero, suc, ◌+◌, ◌-◌, ◌*◌, Bool, true, false, ◌&&◌, not, leb, eqb, length, take, drop, get_or, replicate, if◌then◌else◌}
use mathlib.Core.List.{List, [], ◌∷◌, ◌++◌, flat_map}
use Rattle.std.proofs.Math.Option.{Option, none, some}
use Rattle.trees.specs.Plain.{every, keep, bytes, byte}
use Rattle.trees.specs.Text.{with_byte}
use Rattle.trees.specs.Decimal.{digits_of, number_in}

-- ---- what is written

-- "names `t0`, `t1` and so on"
unfoldable pub name_of : ℕ → List ℕ
unfolding digits_of bytes
name_of i = bytes "t" ++ digits_of i

-- "a name padded with spaces to ten"
unfoldable pub padded : List ℕ → List ℕ
padded w = w ++ replicate (10 - length w) (byte " ")

-- "and its values", "one space before each doubled distance"; "Every line ends with LF"
unfoldable pub row_text : ℕ → List ℕ → List ℕ
unfolding padded name_of flat_map digits_of
row_text i vs = padded (name_of i) ++ flat_map (λ v. byte " " ∷ digits_of v) vs ++ byte "\n" ∷ []

-- the lines of the rows, the first of which is that of tree i
unfoldable pub row_texts : ℕ → List (List ℕ) → List ℕ
unfolding row_text
row_texts i [] = []
row_texts i (vs ∷ rows) = row_text i vs ++ row_texts (suc i) rows

-- "a line with the number of trees, then for each a name .. and its values"
unfoldable pub square_text : List (List ℕ) → List ℕ
unfolding digits_of row_texts
square_text rows = digits_of (length rows) ++ byte "\n" ∷ row_texts 0 rows

-- ---- what is read

unfoldable pub between : ℕ → List ℕ → List (List ℕ)
unfolding with_byte
between x [] = [] ∷ []
between x (b ∷ s) = if eqb b x then [] ∷ between x s else with_byte b (between x s)

-- "0 to 1,024 trees"
abbrev pub most_trees : ℕ
most_trees = 1024

-- "values up to 65,535"
abbrev pub largest_value : ℕ
largest_value = 65535

unfoldable pub is_empty : List ℕ → Bool
is_empty [] = true
is_empty (b ∷ w) = false

-- the last of the parts ws is empty
unfoldable pub ends_empty : List (List ℕ) → Bool
unfolding is_empty
ends_empty [] = true
ends_empty (w ∷ []) = is_empty w
ends_empty (w ∷ v ∷ ws) = ends_empty (v ∷ ws)

-- one value more, before the others
unfoldable pub with_value : Option ℕ → Option (List ℕ) → Option (List ℕ)
with_value none vs = none
with_value (some v) none = none
with_value (some v) (some vs) = some (v ∷ vs)

unfoldable pub numbers_in : List (List ℕ) → Option (List ℕ)
unfolding number_in with_value
numbers_in [] = some []
numbers_in (w ∷ ws) = with_value (number_in largest_value w) (numbers_in ws)

-- "one space or more before a value": s begins with a space and does not end with one; between spaces there is nothing or a value
unfoldable pub values_in : List ℕ → Option (List ℕ)
unfolding between is_empty ends_empty keep numbers_in
values_in [] = none
values_in (b ∷ s) =
    let ws = between (byte " ") s in
    if eqb b (byte " ") && not (ends_empty ws) then numbers_in (keep (λ w. not (is_empty w)) ws) else none

-- "names of any ten bytes from 32 to 126"
unfoldable pub is_name : List ℕ → Bool
unfolding every
is_name w = eqb (length w) 10 && every (λ b. leb 32 b && leb b 126) w

-- t values, and no others
unfoldable pub exactly : ℕ → Option (List ℕ) → Option (List ℕ)
exactly t none = none
exactly t (some vs) = if eqb (length vs) t then some vs else none

unfoldable pub row_in : ℕ → List ℕ → Option (List ℕ)
unfolding is_name exactly values_in
row_in t r = if is_name (take 10 r) then exactly t (values_in (drop 10 r)) else none

-- the values of one row, before those of the others
unfoldable pub with_row : Option (List ℕ) → Option (List ℕ) → Option (List ℕ)
with_row none vs = none
with_row (some v) none = none
with_row (some v) (some vs) = some (v ++ vs)

-- "one line a row": k lines of t values each, each ended by LF, and nothing behind them
unfoldable pub rows_in : ℕ → ℕ → List (List ℕ) → Option (List ℕ)
unfolding is_empty with_row row_in
rows_in k t [] = none
rows_in zero t (r ∷ []) = if is_empty r then some [] else none
rows_in zero t (r ∷ s ∷ rs) = none
rows_in (suc k) t (r ∷ rs) = with_row (row_in t r) (rows_in k t rs)

pub record Square : Type 0 where
  pub trees : ℕ
  pub values : List ℕ

-- the matrix of t trees, if there are values for it
unfoldable pub square_of : ℕ → Option (List ℕ) → Option Square
square_of t none = none
square_of t (some vs) = some (record { trees = t; values = vs })

-- the matrix of the lines ls, if the first says how many trees there are
unfoldable pub square_lines : Option ℕ → List (List ℕ) → Option Square
unfolding square_of rows_in
square_lines none ls = none
square_lines (some t) ls = square_of t (rows_in t t ls)

-- "Every line ends with LF"
unfoldable pub square_in : List ℕ → Option Square
unfolding between square_lines number_in
square_in f = elim (between (byte "\n") f) [ [] ↦ none | l ∷ ls ↦ square_lines (number_in most_trees l) ls ]

-- ---- what must hold of it

-- the numbers below n
unfoldable pub below : ℕ → List ℕ
below zero = []
below (suc n) = n ∷ below n

-- the value in row i and column j
unfoldable pub entry : Square → ℕ → ℕ → ℕ
entry q i j = get_or q.values (q.trees * i + j) 0

-- "25 not symmetric or diagonal not zero"
unfoldable pub symmetric : Square → Bool
unfolding every below entry
symmetric q = every (λ i. eqb (entry q i i) 0 && every (λ j. eqb (entry q i j) (entry q j i)) (below q.trees)) (below q.trees)
