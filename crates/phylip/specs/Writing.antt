-- What writing a matrix answers of lent bytes: 1 where they are not whole, else what crate trees says of what they hold.
--
--   phylip_asked s room     the text of the collection's doubled distances, into a buffer of `room` bytes
--   distance_rows ts        the rows of the matrix of the trees ts
--   last_three n            the last three digits of n
--   values_text vs          the values of a line, a space before each
--   Values vs              they are all below 1,000
--   Kept s i m             the row of tree i is there, unless it is the first of eight
--   most_bytes t            the most bytes that the text of t trees can have
use Rattle.std.specs.Prelude.{ℕ, ◌+◌, ◌*◌, ◌/◌, ◌%◌, ◌<◌, ◌≡◌, length, get_or}
use mathlib.Core.List.{List, [], ◌∷◌, map, flat_map}
use Rattle.trees.specs.Plain.{Answer, byte}
use Rattle.trees.specs.Distance.{doubled}
use Rattle.trees.specs.Decimal.{digits_of}
use Rattle.trees.specs.PhylipCall.{phylip_of}
use Rattle.store.specs.Lent.{if_whole}
use Rattle.distances.specs.Eight.{Block}

abbrev pub phylip_asked : List ℕ → ℕ → Answer (List ℕ)
phylip_asked s room = if_whole s (λ h. phylip_of h room)

unfoldable pub distance_rows : List (List ℕ) → List (List ℕ)
unfolding doubled
distance_rows ts = map (λ t. map (doubled t) ts) ts

abbrev pub last_three : ℕ → List ℕ
last_three n = (48 + n / 100 % 10) ∷ (48 + n / 10 % 10) ∷ (48 + n % 10) ∷ []

unfoldable pub values_text : List ℕ → List ℕ
unfolding flat_map digits_of
values_text vs = flat_map (λ v. byte " " ∷ digits_of v) vs

pub record Values (vs : List ℕ) : Type 0 where
  pub small : (j : ℕ) → j < length vs → get_or vs j 0 < 1000

pub record Kept (s : List ℕ) (i : ℕ) (m : List ℕ) : Type 0 where
  pub room : length m ≡ 8192
  pub block : (i % 8 ≡ 0 → ⊥) → Block s i m

-- a number of at most four digits and a line end; and for each tree a name of ten bytes, four for each value and a line end
unfoldable pub most_bytes : ℕ → ℕ
most_bytes t = 5 + t * (4 * t + 11)
