-- What a head in order says: its numbers are in range, and what the store holds lies inside the lent bytes. Assumes nothing.
--
--   ranges                      the opening's numbers are in their ranges
--   trees-few, splits-few, places-few     there are at most 1,024 trees, 4,096 splits and 8,192 places
--   lane_inside, tree-inside, lengths-inside     where lane l and tree i end, and the lengths of tree i where they are kept
--   branch-inside               where the length of the split in place j of tree i ends
--   mask-inside, identifier-inside, count-inside, link-inside, order-inside, start-inside     where the fields of split k and of place q end
--   place-below, place-small    a place is below their number, and below 8,192
use Rattle.std.specs.Prelude.{ℕ, ◌+◌, ◌*◌, ◌≤◌, ◌<◌, List, length}
use Rattle.std.proofs.Math.Nat.{mod-lt}
use Rattle.std.proofs.Common.{mul-le-mul_right, arith}
use Rattle.trees.specs.Opening.{most_room, lane_bytes, tree_bytes, branch_bytes}
use Rattle.trees.specs.Hash.{sum_over, place}
use Rattle.theorems.specs.OpeningLaws.{InRange, good-opening}
use Rattle.head.specs.Head.{numbers_at, first_at, opening_at}
use Rattle.layout.specs.Store.{lane_from, tree_from, masks_from, identifiers_from, counts_from, links_from, order_from, places_from, lengths_from, trees_held_at, splits_held_at, branches_at, most_splits}
use Rattle.layout.specs.StoreLaws.{lane-from, tree-from, masks-from, identifiers-from, counts-from, links-from, order_from_lem, places-from, branches-from, lengths-from, size_is, branches-some, entries_at, branches-length}
use Rattle.layout.specs.WholeStore.{place_in}
use Rattle.layout.specs.WholeFacts.{HeadAt}

module _ (s : List ℕ) (h : HeadAt s) where
  pub ranges : InRange (numbers_at s)
  unfolding opening_at
  ranges = (good-opening (opening_at s) h.opening-good).ranges

  pub trees-few : trees_held_at s ≤ 1024
  trees-few = omega (arith, h.trees-fit, ranges.most-trees)

  pub splits-few : splits_held_at s ≤ most_room
  splits-few = omega (arith, h.splits-fit, ranges.most-splits)

  pub places-few : (numbers_at s).places ≤ 8192
  places-few = omega (arith, ranges.most-splits, ranges.most-places)

  -- ---- lanes and trees

  pub lane_inside : (l : ℕ) → l < (numbers_at s).lanes → lane_from l + lane_bytes ≤ length s
  lane_inside l b = omega (arith, lane-from l, masks-from (numbers_at s), size_is s, h.reached)

  pub tree-inside : (i : ℕ) → i < trees_held_at s → tree_from (numbers_at s) i + tree_bytes ≤ length s
  tree-inside i b = omega (arith, tree-from (numbers_at s) i, masks-from (numbers_at s), size_is s, h.reached, h.trees-fit)

  pub lengths-inside : (i : ℕ) → i < (numbers_at s).tree_room → 1 ≤ (numbers_at s).kept → lengths_from (numbers_at s) i + branch_bytes ≤ length s
  lengths-inside i b k =
      let room = (numbers_at s).tree_room in
      let m : 1 * room ≤ (numbers_at s).kept * room = mul-le-mul_right room k in
      omega (arith, lengths-from (numbers_at s) i, branches-from (numbers_at s), size_is s, h.reached)

  pub branch-inside : (i j : ℕ) → i < trees_held_at s → j < length (branches_at s i) → j < most_splits → lengths_from (numbers_at s) i + 8 * j + 8 ≤ length s
  branch-inside i j b k few =
      let some = branches-some (numbers_at s) (entries_at s i) j (omega (arith, branches-length s i b)) in
      omega (arith, lengths-inside i (omega (arith, h.trees-fit)) some.0)

  -- ---- splits and places

  module _ (k : ℕ) (b : k < splits_held_at s) where
    pub mask-inside : masks_from (numbers_at s) + 8 * k + 8 ≤ length s
    mask-inside = omega (arith, size_is s, h.reached, h.splits-fit)

    pub identifier-inside : identifiers_from (numbers_at s) + 8 * k + 8 ≤ length s
    identifier-inside = omega (arith, identifiers-from (numbers_at s), size_is s, h.reached, h.splits-fit)

    pub count-inside : counts_from (numbers_at s) + 4 * k + 4 ≤ length s
    count-inside = omega (arith, counts-from (numbers_at s), size_is s, h.reached, h.splits-fit)

    pub link-inside : links_from (numbers_at s) + 2 * k + 2 ≤ length s
    link-inside = omega (arith, links-from (numbers_at s), size_is s, h.reached, h.splits-fit)

    pub order-inside : order_from (numbers_at s) + 2 * k + 2 ≤ length s
    order-inside = omega (arith, order_from_lem (numbers_at s), size_is s, h.reached, h.splits-fit)

  pub start-inside : (q : ℕ) → q < (numbers_at s).places → places_from (numbers_at s) + 2 * q + 2 ≤ length s
  start-inside q b = omega (arith, places-from (numbers_at s), size_is s, h.reached)

  pub place-below : (m : ℕ) → place_in s m < (numbers_at s).places
  unfolding place
  place-below m = mod-lt (sum_over (first_at s) m) ranges.least-places

  pub place-small : (m : ℕ) → place_in s m < 8192
  place-small m = omega (arith, place-below m, places-few)
