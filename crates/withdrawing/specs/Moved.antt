-- Columns of a store whose numbers are moved or named anew.
--
--   Gathered w a rs s t        the bytes t are s with the numbers of the rows rs of the column of width w at a in front of it, in their order
--   Within w a rs s            each of the rows rs lies in the bytes s, and not before its new place
--   renamed es add x           what the number x becomes: by the entries es, where x is an entry (add 0) or a row (add 1)
--   Renamed a n es add s t     the bytes t are s with each of the n numbers of 2 bytes from a on named anew
--   Named a n es add s         the entries es have a name for each of these numbers
use Rattle.std.specs.Prelude.{ℕ, ◌+◌, ◌-◌, ◌*◌, ◌≤◌, ◌<◌, ◌≡◌, ◌⊎◌, List, map, length, get_or}
use Rattle.fields.specs.Field.{number}
use Rattle.layout.specs.Columns.{column_at}

-- ---- moved

pub record Gathered (w a : ℕ) (rs s t : List ℕ) : Type 0 where
  pub column : column_at w a (length rs) t ≡ map (λ r. number w s (a + w * r)) rs
  pub outside : (i : ℕ) → (i < a) ⊎ (a + w * length rs ≤ i) → get_or t i 0 ≡ get_or s i 0
  pub size : length t ≡ length s

-- the numbers move down, so that none is written over before it is read
abbrev pub Within : ℕ → ℕ → List ℕ → List ℕ → Type 0
Within w a rs s = (j : ℕ) → j < length rs → (j ≤ get_or rs j 0) × (a + w * get_or rs j 0 + w ≤ length s)

-- ---- named anew

unfoldable pub renamed : List ℕ → ℕ → ℕ → ℕ
renamed es add x = get_or es (x + add) 0 - add

pub record Renamed (a n : ℕ) (es : List ℕ) (add : ℕ) (s t : List ℕ) : Type 0 where
  pub column : column_at 2 a n t ≡ map (renamed es add) (column_at 2 a n s)
  pub outside : (i : ℕ) → (i < a) ⊎ (a + 2 * n ≤ i) → get_or t i 0 ≡ get_or s i 0
  pub size : length t ≡ length s

-- a row is named by its entry, which is one more: where rows are named, their new entries are 1 or more
abbrev pub Named : ℕ → ℕ → List ℕ → ℕ → List ℕ → Type 0
Named a n es add s = (k : ℕ) → k < n → (number 2 s (a + 2 * k) + add < length es) × (add ≤ get_or es (number 2 s (a + 2 * k) + add) 0)
