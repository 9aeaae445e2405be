-- What is read of a whole store. Assumes nothing.
--
--   tree-length, tree-entry     a tree's splits, by its list
--   row-in-list                 a row that stands in a list is a split's
--   length-read                 a good length, in the bytes
--   long, row_below, rows_at    a whole store has what reading needs
--   count_small                 a count is below 2 ^ 32
use Rattle.std.specs.Prelude.{ℕ, ◌+◌, ◌*◌, ◌≤◌, ◌<◌, ◌^◌, ◌≡◌, true, List, length, get_or}
use Rattle.std.proofs.Common.{arith, sym, ap, ◌∙◌}
use Rattle.std.proofs.Math.Option.{none}
use Rattle.trees.specs.Opening.{head_bytes}
use Rattle.trees.specs.Whole.{good_length}
use Rattle.theorems.specs.ListLaws.{mem-get_d}
use Rattle.fields.specs.FieldLaws.{number-below}
use Rattle.doubles.specs.Stored.{good_length_at}
use Rattle.head.specs.Head.{numbers_at}
use Rattle.layout.specs.Store.{counts_from, lengths_from, trees_held_at, splits_held_at, mask_at, count_at, order_at, list_at, tree_at, branches_at}
use Rattle.layout.specs.StoreLaws.{count-is, branch-is}
use Rattle.layout.specs.WholeStore.{whole_at}
use Rattle.layout.specs.WholeFacts.{whole-at-facts}
use Rattle.layout.specs.UpToLaws.{length-map, map_at}
use Rattle.rows.specs.Rows.{RowsAt}

module _ (s : List ℕ) (i : ℕ) where
  pub tree-length : length (tree_at s i) ≡ length (list_at s i)
  tree-length = length-map (mask_at s) (list_at s i)

  module _ (j : ℕ) (l : j < length (list_at s i)) where
    pub tree-entry : get_or (tree_at s i) j 0 ≡ mask_at s (get_or (list_at s i) j 0)
    tree-entry = map_at (mask_at s) (list_at s i) j l

    pub row-in-list : RowsAt s i → get_or (list_at s i) j 0 < splits_held_at s
    row-in-list r = r.below _ (mem-get_d (list_at s i) j l)

pub length-read : (s : List ℕ) (i j : ℕ) → i < trees_held_at s → j < length (branches_at s i) → good_length (get_or (branches_at s i) j none) ≡ true
    → good_length_at s (lengths_from (numbers_at s) i + 8 * j) ≡ true
unfolding good_length_at
length-read s i j h l g = ap good_length (sym (branch-is s i h j l)) ∙ g

-- ---- of a whole store

module _ (s : List ℕ) (w : whole_at s ≡ true) where
  pub long : head_bytes ≤ length s
  long = (whole-at-facts s w).head.head-there

  pub row_below : (k : ℕ) → k < splits_held_at s → order_at s k < splits_held_at s
  row_below k h = (whole-at-facts s w).splits.rows-below k h

  pub rows_at : (i : ℕ) → i < trees_held_at s → RowsAt s i
  rows_at i h = let f = (whole-at-facts s w).lists i h in record { few = f.few; below = f.numbers-below }

pub count_small : (s : List ℕ) (k x : ℕ) → k < splits_held_at s → ((i : ℕ) → get_or s i 0 < 256) → x ≡ count_at s k → x < 2 ^ 32
count_small s k x h bytes e = omega (arith, e, count-is s k h, number-below 4 s (counts_from (numbers_at s) + 4 * k) bytes)
