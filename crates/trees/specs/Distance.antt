-- Distances between trees, each given by its splits.
--
--   one_sided a b      how many splits of a are lacking in b
--   doubled a b       the doubled Robinson-Foulds distance
--   matrix ts         the doubled distances of all pairs, row by row
use Rattle.std.specs.Prelude.{ℕ, ◌+◌, length}
use mathlib.Core.List.{List, map, flat_map}
use Rattle.trees.specs.Plain.{lacking}

-- "the one-sided number is the splits of i that j lacks"
unfoldable pub one_sided : List ℕ → List ℕ → ℕ
unfolding lacking
one_sided a b = length (lacking a b)

-- "the sum of the two one-sided numbers"
unfoldable pub doubled : List ℕ → List ℕ → ℕ
unfolding one_sided
doubled a b = one_sided a b + one_sided b a

-- "t × t entries, row by row"
unfoldable pub matrix : List (List ℕ) → List ℕ
unfolding doubled flat_map
matrix ts = flat_map (λ a. map (doubled a) ts) ts
