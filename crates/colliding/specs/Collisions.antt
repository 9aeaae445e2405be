-- The collision number, as the code counts it.
--
--   Placed s p rows                      rows has, for each row with a place below p, that place
--   PlacedPart s p e rows                the same, and for each row of the place p from the entry e on
--   Numbered s k places identifiers      the two lists have the places and the identifiers of the splits with numbers below k
--   alike places identifiers p x j       number j has the place p and the identifier x
--   alike_to places identifiers k j       number j has the place and the identifier of number k
--   count_from t j n                      how many of the n numbers from j on pass the test t
--   pairs_from places identifiers k n     how many pairs of the n numbers from k on are equal in place and identifier
-- An entry is a row and one more, or 0 at a chain's end.
use Rattle.std.specs.Prelude.{ℕ, zero, suc, ◌+◌, ◌≤◌, ◌<◌, ◌≡◌, Bool, ◌&&◌, List, eqb, length, get_or}
use Rattle.trees.specs.Opening.{most_room}
use Rattle.trees.specs.Hash.{identifier}
use Rattle.head.specs.Head.{second_at}
use Rattle.layout.specs.Store.{splits_held_at, mask_at, split_at}
use Rattle.layout.specs.WholeStore.{place_in}
use Rattle.layout.specs.UpToLaws.{one_if}

-- ---- the places of the rows, noted along the chains

pub record Placed (s : List ℕ) (p : ℕ) (rows : List ℕ) : Type 0 where
  pub size : length rows ≡ most_room
  pub lower : (k : ℕ) → k < splits_held_at s → place_in s (mask_at s k) < p → get_or rows k 0 ≡ place_in s (mask_at s k)

pub record PlacedPart (s : List ℕ) (p e : ℕ) (rows : List ℕ) : Type 0 where
  pub noted : Placed s p rows
  pub here : (k : ℕ) → k < splits_held_at s → e ≤ k → place_in s (mask_at s k) ≡ p → get_or rows k 0 ≡ p
  pub entry : (k : ℕ) → e ≡ suc k → place_in s (mask_at s k) ≡ p
  pub most : e ≤ splits_held_at s

-- ---- places and identifiers by the splits' numbers

pub record Numbered (s : List ℕ) (k : ℕ) (places identifiers : List ℕ) : Type 0 where
  pub places-size : length places ≡ most_room
  pub identifiers-size : length identifiers ≡ most_room
  pub each-place : (j : ℕ) → j < k → get_or places j 0 ≡ place_in s (split_at s j)
  pub each-identifier : (j : ℕ) → j < k → get_or identifiers j 0 ≡ identifier (second_at s) (split_at s j)

-- ---- pairs

unfoldable pub alike : List ℕ → List ℕ → ℕ → ℕ → ℕ → Bool
alike places identifiers p x j = eqb p (get_or places j 0) && eqb x (get_or identifiers j 0)

abbrev pub alike_to : List ℕ → List ℕ → ℕ → ℕ → Bool
alike_to places identifiers k = alike places identifiers (get_or places k 0) (get_or identifiers k 0)

unfoldable pub count_from : (ℕ → Bool) → ℕ → ℕ → ℕ
unfolding one_if
count_from t j zero = 0
count_from t j (suc n) = one_if (t j) + count_from t (suc j) n

unfoldable pub pairs_from : List ℕ → List ℕ → ℕ → ℕ → ℕ
unfolding count_from alike
pairs_from places identifiers k zero = 0
pairs_from places identifiers k (suc n) = count_from (alike_to places identifiers k) (suc k) n + pairs_from places identifiers (suc k) n
