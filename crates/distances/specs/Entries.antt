-- The entries of a matrix of distances that is being written.
--
--   Written s out a b     the two entries of the trees a and b are their distance
--   Filled s i j out      the entries of every tree below i are written, and those of tree i with the trees below j
use Rattle.std.specs.Prelude.{◌≡◌, ℕ, ◌+◌, ◌*◌, ◌<◌, ◌≤◌, ◌⊎◌, List, slice_index_or}
use Rattle.trees.specs.Distance.{doubled}
use Rattle.layout.specs.Store.{trees_held_at, tree_at}

pub record Written (s out : List ℕ) (a b : ℕ) : Type 0 where
  pub in_row : slice_index_or out (a * trees_held_at s + b) 0 ≡ doubled (tree_at s a) (tree_at s b)
  pub in-column : slice_index_or out (b * trees_held_at s + a) 0 ≡ doubled (tree_at s a) (tree_at s b)

pub record Filled (s : List ℕ) (i j : ℕ) (out : List ℕ) : Type 0 where
  pub entries : (a b : ℕ) → a ≤ b → b < trees_held_at s → (a < i) ⊎ ((a ≡ i) × (b < j)) → Written s out a b
