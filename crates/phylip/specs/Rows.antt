-- What the code answers of rows.
--
--   is_plain b                b is a byte of a name
--   PlaceAs f good s r       r is the place of s in the text f where `good` passes, and none where it fails
--   Stands f s t k at        `at` has the places behind the names of the first k rows of s, of t values each
--   RowsAs f i t r old at    whether t rows stand at i is answered as r, and `at` is left in the place of `old`
use Rattle.std.specs.Prelude.{ℕ, ◌<◌, ◌≡◌, Bool, true, false, ◌&&◌, List, leb, length, get_or, drop, Option, None, Some}
use Rattle.phylip.specs.Walk.{rest, next_rows, are_rows}

-- "any ten bytes from 32 to 126"
unfoldable pub is_plain : ℕ → Bool
is_plain b = leb 32 b && leb b 126

unfoldable pub PlaceAs : List ℕ → Bool → List ℕ → Option ℕ → Type 0
PlaceAs f good s (Some e) = (good ≡ true) × (rest f e ≡ s)
PlaceAs f good s None = good ≡ false

unfoldable pub Stands : List ℕ → List ℕ → ℕ → ℕ → List ℕ → Type 0
Stands f s t k at = (j : ℕ) → j < k → rest f (get_or at j 0) ≡ drop 10 (next_rows j t s)

pub record RowsAs (f : List ℕ) (i t : ℕ) (r : Bool) (old at : List ℕ) : Type 0 where
  pub is : r ≡ are_rows t t (rest f i)
  pub size : length at ≡ length old
  pub stands : r ≡ true → Stands f (rest f i) t t at
