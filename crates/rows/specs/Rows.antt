-- What reading the masks of a tree needs.
--
--   RowsAt s i     tree i lists at most 62 rows, which fit its place, and all of them are rows of splits
use Rattle.std.specs.Prelude.{ℕ, ◌≤◌, ◌<◌, List, length}
use Rattle.theorems.specs.ListLaws.{Mem}
use Rattle.layout.specs.Store.{splits_held_at, list_at, most_splits}

pub record RowsAt (s : List ℕ) (i : ℕ) : Type 0 where
  pub few : length (list_at s i) ≤ most_splits
  pub below : (k : ℕ) → Mem k (list_at s i) → k < splits_held_at s
