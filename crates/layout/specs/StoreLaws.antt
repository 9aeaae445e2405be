-- Where everything in a store lies, by the opening's numbers. Assumes nothing.
--
--   lane-from, tree-from, masks-from, identifiers-from, counts-from, links-from, order_from_lem, places-from, branches-from, lengths-from, size_is     where things begin and end
--   trees-held-is, splits-held-is                how many trees and splits the head says
--   Shaped n p, shaped-at                        parts of one shape: what n says of a store's parts, and that those of bytes are so
--   mask_is, identifier-is, count-is, link-is, start_is, order_is     each field is a number at its place
--   entries_at, entry_at, list_length, list_at_lem     a tree's list
--   lengths-length, lengths-at, lengths-same     lengths from a place on
--   branches-some                                a tree has lengths only where they are kept, and no more than splits
--   branches-length, branch-is                   a tree's lengths
--   length-is, lane-is                           a lane
use Rattle.std.specs.Prelude.{ℕ, ◌+◌, ◌*◌, ◌≤◌, ◌<◌, ◌≡◌, eqb, length, get_or}
use native.Mathlib.Omega.{arith}
use Rattle.std.proofs.Math.Path.{refl, sym, ap}
use Rattle.std.proofs.Common.{◌∙◌}
use mathlib.Core.List.{List, []}
use Rattle.std.proofs.Math.Option.{none}
use borrow.Author.Tests.{eqb-false}
use Rattle.trees.specs.Opening.{Numbers, store_size, lane_bytes, head_bytes, tree_bytes, branch_bytes}
use Rattle.theorems.specs.ListLaws.{by-test}
use Rattle.fields.specs.Field.{number}
use Rattle.doubles.specs.Stored.{length_at as branch_at}
use Rattle.doubles.specs.StoredLaws.{length-same}
use Rattle.head.specs.Head.{numbers_at}
use Rattle.head.specs.HeadLaws.{up_to-length, up_to-at, up_to-same}
use Rattle.layout.specs.Columns.{column_at, column-length, column-at}
use Rattle.layout.specs.Store.{lane_from, tree_from, masks_from, identifiers_from, counts_from, links_from, order_from, places_from, branches_from, lengths_from, size_at, Parts, list_from, branches_of, lengths_at, text_from, parts_at, splits_in, trees_in, list_in, branches_in, trees_held_at, splits_held_at, mask_at, identifier_at, count_at, link_at, start_at, order_at, list_at, branches_at, length_at, lane_at}

-- ---- where things begin

pub lane-from : (l : ℕ) → lane_from l ≡ head_bytes + lane_bytes * l
unfolding lane_from
lane-from l = refl

module _ (n : Numbers) where
  pub tree-from : (i : ℕ) → tree_from n i ≡ head_bytes + lane_bytes * n.lanes + tree_bytes * i
  unfolding tree_from lane_from
  tree-from i = refl

  pub masks-from : masks_from n ≡ head_bytes + lane_bytes * n.lanes + tree_bytes * n.tree_room
  unfolding masks_from tree_from lane_from
  masks-from = refl

  pub identifiers-from : identifiers_from n ≡ masks_from n + 8 * n.split_room
  unfolding identifiers_from
  identifiers-from = refl

  pub counts-from : counts_from n ≡ masks_from n + 16 * n.split_room
  unfolding counts_from
  counts-from = refl

  pub links-from : links_from n ≡ masks_from n + 20 * n.split_room
  unfolding links_from
  links-from = refl

  pub order_from_lem : order_from n ≡ masks_from n + 22 * n.split_room
  unfolding order_from
  order_from_lem = refl

  pub places-from : places_from n ≡ masks_from n + 24 * n.split_room
  unfolding places_from
  places-from = refl

  pub branches-from : branches_from n ≡ masks_from n + 24 * n.split_room + 2 * n.places
  unfolding branches_from places_from
  branches-from = refl

  pub lengths-from : (i : ℕ) → lengths_from n i ≡ branches_from n + branch_bytes * i
  unfolding lengths_from
  lengths-from i = refl

  pub size-from : store_size n ≡ masks_from n + 24 * n.split_room + 2 * n.places + branch_bytes * (n.kept * n.tree_room)
  unfolding store_size masks_from tree_from lane_from
  size-from = refl

  pub branches-some : (k j : ℕ) → j < branches_of n k → (1 ≤ n.kept) × (j < k)
  unfolding branches_of
  branches-some k j = by-test (λ (m : ℕ). j < m → (1 ≤ n.kept) × (j < k)) (eqb n.kept 0) (λ e h. absurd (omega arith)) (λ e h. (let f = eqb-false n.kept 0 e in omega arith, h))

pub size_is : (s : List ℕ) → size_at s ≡ masks_from (numbers_at s) + 24 * (numbers_at s).split_room + 2 * (numbers_at s).places + branch_bytes * ((numbers_at s).kept * (numbers_at s).tree_room)
unfolding size_at
size_is s = size-from (numbers_at s)

-- ---- lengths from a place on

module _ (s : List ℕ) (a k : ℕ) where
  pub lengths-length : length (lengths_at s a k) ≡ k
  unfolding lengths_at
  lengths-length = up_to-length _ k

  pub lengths-at : (j : ℕ) → j < k → get_or (lengths_at s a k) j none ≡ branch_at s (a + 8 * j)
  unfolding lengths_at
  lengths-at j h = up_to-at _ k j none h

pub lengths-same : (s t : List ℕ) (a b k : ℕ) → ((j : ℕ) → j < k → number 8 s (a + 8 * j) ≡ number 8 t (b + 8 * j)) → lengths_at s a k ≡ lengths_at t b k
unfolding lengths_at
lengths-same s t a b k h = up_to-same _ _ k (λ j l. length-same s t (a + 8 * j) (b + 8 * j) (h j l))

-- ---- the shape of the parts

pub record Shaped (n : Numbers) (p : Parts) : Type 0 where
  pub identifiers : length p.identifiers ≡ splits_in p
  pub counts : length p.counts ≡ splits_in p
  pub links : length p.links ≡ splits_in p
  pub order : length p.order ≡ splits_in p
  pub starts : length p.starts ≡ n.places
  pub branches : length p.branches ≡ trees_in p
  pub branches-each : (i : ℕ) → i < trees_in p → length (branches_in p i) ≡ branches_of n (length (list_in p i))
  pub lengths : length p.lengths ≡ n.lanes
  pub texts : length p.texts ≡ n.lanes

-- how many splits tree i lists, and the j-th of them
abbrev pub entries_at : List ℕ → ℕ → ℕ
entries_at s i = number 2 s (tree_from (numbers_at s) i)

abbrev pub entry_at : List ℕ → ℕ → ℕ → ℕ
entry_at s i j = number 2 s (tree_from (numbers_at s) i + 2 + 2 * j)

module _ (s : List ℕ) where
  pub trees-held-is : trees_held_at s ≡ number 2 s 10
  unfolding parts_at
  trees-held-is = up_to-length _ (number 2 s 10)

  pub splits-held-is : splits_held_at s ≡ number 2 s 12
  unfolding parts_at
  splits-held-is = column-length 8 _ (number 2 s 12) s

  -- ---- each field

  module _ (k : ℕ) (h : k < splits_held_at s) where
    held : k < number 2 s 12
    held = rw (← splits-held-is) h

    pub mask_is : mask_at s k ≡ number 8 s (masks_from (numbers_at s) + 8 * k)
    unfolding parts_at
    mask_is = column-at 8 _ (number 2 s 12) s k held

    pub identifier-is : identifier_at s k ≡ number 8 s (identifiers_from (numbers_at s) + 8 * k)
    unfolding parts_at
    identifier-is = column-at 8 _ (number 2 s 12) s k held

    pub count-is : count_at s k ≡ number 4 s (counts_from (numbers_at s) + 4 * k)
    unfolding parts_at
    count-is = column-at 4 _ (number 2 s 12) s k held

    pub link-is : link_at s k ≡ number 2 s (links_from (numbers_at s) + 2 * k)
    unfolding parts_at
    link-is = column-at 2 _ (number 2 s 12) s k held

    pub order_is : order_at s k ≡ number 2 s (order_from (numbers_at s) + 2 * k)
    unfolding parts_at
    order_is = column-at 2 _ (number 2 s 12) s k held

  pub start_is : (q : ℕ) → q < (numbers_at s).places → start_at s q ≡ number 2 s (places_from (numbers_at s) + 2 * q)
  unfolding parts_at
  start_is q h = column-at 2 _ (numbers_at s).places s q h

  module _ (i : ℕ) (h : i < trees_held_at s) where
    list-is : list_at s i ≡ column_at 2 (tree_from (numbers_at s) i + 2) (entries_at s i) s
    unfolding parts_at list_from
    list-is = up_to-at _ (number 2 s 10) i [] (rw (← trees-held-is) h)

    pub list_length : length (list_at s i) ≡ entries_at s i
    list_length = rw list-is (column-length 2 _ (entries_at s i) s)

    pub list_at_lem : (j : ℕ) → j < entries_at s i → get_or (list_at s i) j 0 ≡ entry_at s i j
    list_at_lem j l = rw list-is (column-at 2 (tree_from (numbers_at s) i + 2) (entries_at s i) s j l)

    branches-are : branches_at s i ≡ lengths_at s (lengths_from (numbers_at s) i) (branches_of (numbers_at s) (entries_at s i))
    unfolding parts_at
    branches-are = up_to-at _ (number 2 s 10) i [] (rw (← trees-held-is) h)

    pub branches-length : length (branches_at s i) ≡ branches_of (numbers_at s) (entries_at s i)
    branches-length = rw branches-are (lengths-length s _ _)

    pub branch-is : (j : ℕ) → j < length (branches_at s i) → get_or (branches_at s i) j none ≡ branch_at s (lengths_from (numbers_at s) i + 8 * j)
    branch-is j l = rw branches-are (lengths-at s _ _ j (rw (← branches-length) l))

  module _ (l : ℕ) (h : l < (numbers_at s).lanes) where
    pub length-is : length_at s l ≡ number 2 s (lane_from l)
    unfolding parts_at
    length-is = up_to-at _ (numbers_at s).lanes l 0 h

    pub lane-is : lane_at s l ≡ text_from s (lane_from l)
    unfolding parts_at
    lane-is = up_to-at _ (numbers_at s).lanes l _ h

  -- ---- all of it

  pub shaped-at : Shaped (numbers_at s) (parts_at s)
  unfolding parts_at
  shaped-at =
      let n = number 2 s 12 in
      let m = column-length 8 (masks_from (numbers_at s)) n s in
      record {
        identifiers = column-length 8 (identifiers_from (numbers_at s)) n s ∙ sym m;
        counts = column-length 4 (counts_from (numbers_at s)) n s ∙ sym m;
        links = column-length 2 (links_from (numbers_at s)) n s ∙ sym m;
        order = column-length 2 (order_from (numbers_at s)) n s ∙ sym m;
        starts = column-length 2 (places_from (numbers_at s)) (numbers_at s).places s;
        branches = up_to-length _ (number 2 s 10) ∙ sym (up_to-length _ (number 2 s 10));
        branches-each = λ i h. branches-length i h ∙ ap (branches_of (numbers_at s)) (sym (list_length i h));
        lengths = up_to-length _ (numbers_at s).lanes;
        texts = up_to-length _ (numbers_at s).lanes;
      }
