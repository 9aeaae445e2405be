-- A matrix read from left to right. `s` is what stands from a place of the text on. That the walk reads the matrix that the text is
-- (`square_in` of crate trees) is said in `SquareLaws`.
--
--   rest f i                         what stands in the text f from the place i on
--   is_byte x b                       the byte b is x
--   capped n                         the number n, or 65,536 where it is above: too large for a value or for a number of trees
--   number s                         the number in the digits at the front of s, capped
--   value s, next s                  the value at the front of s, behind spaces, and what stands behind it
--   is_value s                        there is one, and it is not too large
--   values n s, nexts n s, are_values n s     the same of n values
--   ends_row n s                      n values, and LF at once behind them
--   is_row t s, next_row t s           a line of t values, and what stands behind it
--   rows_read k t s, next_rows k t s, are_rows k t s     the same of k lines; and nothing behind them
--   is_first s, behind_first s         a line with the number of trees, and what stands behind it
--   is_square s, square_read s         the whole text
use Rattle.std.specs.Prelude.{ℕ, zero, suc, Bool, true, ◌&&◌, List, [], ◌∷◌, ◌++◌, leb, ltb, eqb, take, drop, if◌then◌else◌}
use Rattle.trees.specs.Plain.{byte}
use Rattle.trees.specs.Length.{is_digit}
use Rattle.trees.specs.Value.{number_from}
use Rattle.trees.specs.Nexus.{run_of, behind_run, begins}
use Rattle.trees.specs.Phylip.{is_empty, is_name, most_trees, largest_value, Square}

unfoldable pub rest : List ℕ → ℕ → List ℕ
rest f i = drop i f

unfoldable pub is_byte : ℕ → ℕ → Bool
is_byte x b = eqb b x

unfoldable pub capped : ℕ → ℕ
capped n = if ltb n 65536 then n else 65536

-- ---- a number and a value

unfoldable pub number : List ℕ → ℕ
number s = capped (number_from 0 (run_of is_digit s))

unfoldable pub value : List ℕ → ℕ
value s = number (behind_run (is_byte (byte " ")) s)

unfoldable pub next : List ℕ → List ℕ
next s = behind_run is_digit (behind_run (is_byte (byte " ")) s)

-- "one space or more before a value", "values up to 65,535"
unfoldable pub is_value : List ℕ → Bool
is_value s = begins (is_byte (byte " ")) s && (begins is_digit (behind_run (is_byte (byte " ")) s) && leb (value s) largest_value)

-- ---- values

unfoldable pub values : ℕ → List ℕ → List ℕ
values zero s = []
values (suc n) s = value s ∷ values n (next s)

unfoldable pub nexts : ℕ → List ℕ → List ℕ
nexts zero s = s
nexts (suc n) s = nexts n (next s)

unfoldable pub are_values : ℕ → List ℕ → Bool
are_values zero s = true
are_values (suc n) s = is_value s && are_values n (next s)

-- ---- a row

unfoldable pub ends_row : ℕ → List ℕ → Bool
ends_row n s = are_values n s && begins (is_byte (byte "\n")) (nexts n s)

unfoldable pub is_row : ℕ → List ℕ → Bool
is_row t s = is_name (take 10 s) && ends_row t (drop 10 s)

unfoldable pub next_row : ℕ → List ℕ → List ℕ
next_row t s = drop 1 (nexts t (drop 10 s))

-- ---- rows

unfoldable pub rows_read : ℕ → ℕ → List ℕ → List ℕ
rows_read zero t s = []
rows_read (suc k) t s = values t (drop 10 s) ++ rows_read k t (next_row t s)

unfoldable pub next_rows : ℕ → ℕ → List ℕ → List ℕ
next_rows zero t s = s
next_rows (suc k) t s = next_rows k t (next_row t s)

unfoldable pub are_rows : ℕ → ℕ → List ℕ → Bool
are_rows zero t s = is_empty s
are_rows (suc k) t s = is_row t s && are_rows k t (next_row t s)

-- ---- the whole text

-- "0 to 1,024 trees"
unfoldable pub is_first : List ℕ → Bool
is_first s = begins is_digit s && (leb (number s) most_trees && begins (is_byte (byte "\n")) (behind_run is_digit s))

unfoldable pub behind_first : List ℕ → List ℕ
behind_first s = drop 1 (behind_run is_digit s)

unfoldable pub is_square : List ℕ → Bool
is_square s = is_first s && are_rows (number s) (number s) (behind_first s)

unfoldable pub square_read : List ℕ → Square
square_read s = record { trees = number s; values = rows_read (number s) (number s) (behind_first s) }
