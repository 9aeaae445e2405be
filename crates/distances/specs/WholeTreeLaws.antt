-- What the code needs of the trees of a whole store. Assumes nothing.
--
--   head_at          the head is in order
--   list-few         a tree lists at most 62 splits
--   row-held         a row that a tree lists is a split's
--   row-few          and below 4,096
--   row_at, row_small     so is the j-th of them
--   list_same        trees compared by their rows are compared by their splits
--   trees-balance    what one tree has and another has not, by what that one has and by how many splits they list
use Rattle.std.specs.Prelude.{◌≡◌, ℕ, ◌+◌, ◌<◌, ◌≤◌, true, List, length, slice_index}
use Rattle.std.proofs.Common.{arith}
use Rattle.trees.specs.Opening.{most_room}
use Rattle.trees.specs.Distance.{one_sided}
use Rattle.theorems.specs.ListLaws.{Mem, mem-get_d}
use Rattle.layout.specs.Store.{trees_held_at, splits_held_at, mask_at, list_at, tree_at, most_splits}
use Rattle.layout.specs.WholeStore.{whole_at}
use Rattle.layout.specs.WholeFacts.{HeadAt, WholeAt, whole-at-facts}
use Rattle.layout.specs.InsideLaws.{splits-few}
use Rattle.rows.specs.ReadLaws.{tree-length}
use Rattle.store.specs.RecordedAtLaws.{member-at}
use Rattle.store.specs.HeldWholeLaws.{tree-rises}
use Rattle.distances.specs.LackLaws.{one_sided-map, rising-different, one_sided-balance}

module _ (s : List ℕ) (w : whole_at s ≡ true) where
  facts : WholeAt s
  facts = whole-at-facts s w

  pub head_at : HeadAt s
  head_at = facts.head

  module _ (i : ℕ) (h : i < trees_held_at s) where
    pub list-few : length (list_at s i) ≤ most_splits
    list-few = (facts.lists i h).few

    pub row-held : (k : ℕ) → Mem k (list_at s i) → k < splits_held_at s
    row-held k m = (facts.lists i h).numbers-below k m

    pub row-few : (k : ℕ) → Mem k (list_at s i) → k < most_room
    row-few k m = omega (arith, row-held k m, splits-few s head_at)

    pub row_at : (j k : ℕ) → j < length (list_at s i) → k ≡ slice_index (list_at s i) j → k < splits_held_at s
    row_at j k l e = rw e (row-held _ (mem-get_d (list_at s i) j l))

    pub row_small : (j k : ℕ) → j < length (list_at s i) → k ≡ slice_index (list_at s i) j → k < most_room
    row_small j k l e = rw e (row-few _ (mem-get_d (list_at s i) j l))

  pub list_same : (i j : ℕ) → i < trees_held_at s → j < trees_held_at s → one_sided (tree_at s i) (tree_at s j) ≡ one_sided (list_at s i) (list_at s j)
  list_same i j h f =
      one_sided-map (mask_at s) (list_at s i) (list_at s j) (λ k m. member-at s w k j (row-held i h k m) f)

  pub trees-balance : (i j : ℕ) → i < trees_held_at s → j < trees_held_at s
      → length (list_at s i) + one_sided (tree_at s j) (tree_at s i) ≡ length (list_at s j) + one_sided (tree_at s i) (tree_at s j)
  trees-balance i j h f =
      let d = rising-different (tree_at s i) (tree-rises s w i h) in
      let e = rising-different (tree_at s j) (tree-rises s w j f) in
      let b = one_sided-balance (tree_at s i) (tree_at s j) d e in
      omega (arith, b, tree-length s i, tree-length s j)
