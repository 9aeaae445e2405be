-- Every byte of a store, and what it holds. docs/STORE.md says the same in words.
--
--   ran_over, ran_over_open           the lengths of a lane that ran over: no quotes are open, quotes are
--   most_splits                     the most splits of a tree
--   lane_from, tree_from             where lane l and tree i begin, by the opening's numbers
--   masks_from, identifiers_from, counts_from, links_from, order_from, places_from     where the splits' columns and the places begin
--   branches_from, lengths_from      where the trees' lengths begin, and those of tree i
--   branches_of n k                 how many lengths a tree of k splits has
--   size_at s                       the store's size, by its numbers
--   Parts                          what lies behind the head, as lists
--   parts_at s                      those of the bytes s
--   splits_in, trees_in              how many splits and trees there are
--   mask_in, identifier_in, count_in, link_in, start_in     the fields of the split in row k; where the chain of place p starts
--   order_in, split_in, masks_in      the row and the mask of the split with number k; all masks by number
--   list_in, tree_in, branches_in     the rows, the masks and the lengths of tree i
--   length_in, lane_in               the stored length of lane l, and the lane
--   held_in o p                     what a store with the opening o and the parts p holds
--   trees_held_at .. held_at          the same of the bytes s
use Rattle.std.specs.Prelude.{ℕ, ◌+◌, ◌*◌, true, false, List, [], map, eqb, length, get_or, take, drop, if◌then◌else◌}
use Rattle.trees.specs.Value.{Length}
use Rattle.trees.specs.Opening.{Numbers, Opening, store_size, lane_bytes, head_bytes, tree_bytes, branch_bytes}
use Rattle.trees.specs.Held.{Held, Lane, holding, overrun}
use Rattle.fields.specs.Field.{number}
use Rattle.doubles.specs.Stored.{length_at as branch_at}
use Rattle.head.specs.Head.{up_to, numbers_at, opening_at}
use Rattle.layout.specs.Columns.{column_at}

-- ---- limits

-- the lengths of a lane that ran over: more than a text can have
abbrev pub ran_over : ℕ
ran_over = 4609

abbrev pub ran_over_open : ℕ
ran_over_open = 4610

-- the most splits of a tree over 64 taxa, which fit its bytes
abbrev pub most_splits : ℕ
most_splits = 62

-- ---- where things begin

-- 4,616 bytes a lane: its length in 2 bytes, 6 that are not used, 4,608 for the text
unfoldable pub lane_from : ℕ → ℕ
lane_from l = head_bytes + lane_bytes * l

-- 128 bytes a tree: how many splits it has in 2 bytes, then 2 bytes for each split's row
unfoldable pub tree_from : Numbers → ℕ → ℕ
unfolding lane_from
tree_from n i = lane_from n.lanes + tree_bytes * i

-- 24 bytes a split, each field in a column of its own: 8 the mask, 8 the identifier, 4 the count, 2 the link, 2 for the order by mask
unfoldable pub masks_from : Numbers → ℕ
unfolding tree_from
masks_from n = tree_from n n.tree_room

unfoldable pub identifiers_from : Numbers → ℕ
unfolding masks_from
identifiers_from n = masks_from n + 8 * n.split_room

unfoldable pub counts_from : Numbers → ℕ
unfolding masks_from
counts_from n = masks_from n + 16 * n.split_room

unfoldable pub links_from : Numbers → ℕ
unfolding masks_from
links_from n = masks_from n + 20 * n.split_room

unfoldable pub order_from : Numbers → ℕ
unfolding masks_from
order_from n = masks_from n + 22 * n.split_room

-- 2 bytes a place
unfoldable pub places_from : Numbers → ℕ
unfolding masks_from
places_from n = masks_from n + 24 * n.split_room

-- where lengths are kept, 512 bytes a tree behind the places: 8 for the length of each of its splits, in the order of its list
unfoldable pub branches_from : Numbers → ℕ
unfolding places_from
branches_from n = places_from n + 2 * n.places

unfoldable pub lengths_from : Numbers → ℕ → ℕ
unfolding branches_from
lengths_from n i = branches_from n + branch_bytes * i

unfoldable pub size_at : List ℕ → ℕ
unfolding store_size numbers_at
size_at s = store_size (numbers_at s)

-- ---- the parts

-- splits stand in rows, in order of recording; `order` has their rows in order of mask
pub record Parts : Type 0 where
  pub masks : List ℕ
  pub identifiers : List ℕ
  pub counts : List ℕ
  -- the next lower row of the same place, and one more; 0 for none
  pub links : List ℕ
  pub order : List ℕ
  -- where the chain of each place starts: a row and one more, or 0
  pub starts : List ℕ
  -- the rows of each tree's splits, and their lengths
  pub lists : List (List ℕ)
  pub branches : List (List Length)
  -- the lanes' lengths as they are stored, and the lanes
  pub lengths : List ℕ
  pub texts : List Lane

-- the list of a tree that begins at a
unfoldable pub list_from : List ℕ → ℕ → List ℕ
list_from s a = column_at 2 (a + 2) (number 2 s a) s

-- "Opening says whether lengths are kept": if so, one for each of a tree's k splits, else none
unfoldable pub branches_of : Numbers → ℕ → ℕ
branches_of n k = if eqb n.kept 0 then 0 else k

-- k lengths from a on
unfoldable pub lengths_at : List ℕ → ℕ → ℕ → List Length
unfolding up_to branch_at
lengths_at s a k = up_to (λ j. branch_at s (a + 8 * j)) k

-- the lane that begins at a; a length of 4,609 or 4,610 says that it ran over
unfoldable pub text_from : List ℕ → ℕ → Lane
text_from s a =
    if eqb (number 2 s a) ran_over then overrun false
    else if eqb (number 2 s a) ran_over_open then overrun true
    else holding (take (number 2 s a) (drop (a + 8) s))

-- the head has the numbers of trees and splits beside the opening's
unfoldable pub parts_at : List ℕ → Parts
parts_at s = record {
  masks = column_at 8 (masks_from (numbers_at s)) (number 2 s 12) s;
  identifiers = column_at 8 (identifiers_from (numbers_at s)) (number 2 s 12) s;
  counts = column_at 4 (counts_from (numbers_at s)) (number 2 s 12) s;
  links = column_at 2 (links_from (numbers_at s)) (number 2 s 12) s;
  order = column_at 2 (order_from (numbers_at s)) (number 2 s 12) s;
  starts = column_at 2 (places_from (numbers_at s)) (numbers_at s).places s;
  lists = up_to (λ i. list_from s (tree_from (numbers_at s) i)) (number 2 s 10);
  branches = up_to (λ i. lengths_at s (lengths_from (numbers_at s) i) (branches_of (numbers_at s) (number 2 s (tree_from (numbers_at s) i)))) (number 2 s 10);
  lengths = up_to (λ l. number 2 s (lane_from l)) (numbers_at s).lanes;
  texts = up_to (λ l. text_from s (lane_from l)) (numbers_at s).lanes;
}

-- ---- what the parts say

abbrev pub splits_in : Parts → ℕ
splits_in p = length p.masks

abbrev pub trees_in : Parts → ℕ
trees_in p = length p.lists

abbrev pub mask_in : Parts → ℕ → ℕ
mask_in p k = get_or p.masks k 0

abbrev pub identifier_in : Parts → ℕ → ℕ
identifier_in p k = get_or p.identifiers k 0

abbrev pub count_in : Parts → ℕ → ℕ
count_in p k = get_or p.counts k 0

abbrev pub link_in : Parts → ℕ → ℕ
link_in p k = get_or p.links k 0

abbrev pub start_in : Parts → ℕ → ℕ
start_in p q = get_or p.starts q 0

abbrev pub order_in : Parts → ℕ → ℕ
order_in p k = get_or p.order k 0

-- "A recorded split's number is its place, from 0, in the list by rising mask"
abbrev pub split_in : Parts → ℕ → ℕ
split_in p k = mask_in p (order_in p k)

abbrev pub masks_in : Parts → List ℕ
masks_in p = map (mask_in p) p.order

abbrev pub list_in : Parts → ℕ → List ℕ
list_in p i = get_or p.lists i []

abbrev pub tree_in : Parts → ℕ → List ℕ
tree_in p i = map (mask_in p) (list_in p i)

abbrev pub branches_in : Parts → ℕ → List Length
branches_in p i = get_or p.branches i []

abbrev pub length_in : Parts → ℕ → ℕ
length_in p l = get_or p.lengths l 0

abbrev pub lane_in : Parts → ℕ → Lane
lane_in p l = get_or p.texts l (holding [])

unfoldable pub held_in : Opening → Parts → Held
held_in o p = record { opening = o; trees = map (map (mask_in p)) p.lists; lengths = p.branches; texts = p.texts }

-- ---- the same of bytes

abbrev pub trees_held_at : List ℕ → ℕ
trees_held_at s = trees_in (parts_at s)

abbrev pub splits_held_at : List ℕ → ℕ
splits_held_at s = splits_in (parts_at s)

abbrev pub mask_at : List ℕ → ℕ → ℕ
mask_at s k = mask_in (parts_at s) k

abbrev pub identifier_at : List ℕ → ℕ → ℕ
identifier_at s k = identifier_in (parts_at s) k

abbrev pub count_at : List ℕ → ℕ → ℕ
count_at s k = count_in (parts_at s) k

abbrev pub link_at : List ℕ → ℕ → ℕ
link_at s k = link_in (parts_at s) k

abbrev pub start_at : List ℕ → ℕ → ℕ
start_at s q = start_in (parts_at s) q

abbrev pub order_at : List ℕ → ℕ → ℕ
order_at s k = order_in (parts_at s) k

abbrev pub split_at : List ℕ → ℕ → ℕ
split_at s k = split_in (parts_at s) k

abbrev pub masks_at : List ℕ → List ℕ
masks_at s = masks_in (parts_at s)

abbrev pub list_at : List ℕ → ℕ → List ℕ
list_at s i = list_in (parts_at s) i

abbrev pub tree_at : List ℕ → ℕ → List ℕ
tree_at s i = tree_in (parts_at s) i

abbrev pub branches_at : List ℕ → ℕ → List Length
branches_at s i = branches_in (parts_at s) i

abbrev pub length_at : List ℕ → ℕ → ℕ
length_at s l = length_in (parts_at s) l

abbrev pub lane_at : List ℕ → ℕ → Lane
lane_at s l = lane_in (parts_at s) l

abbrev pub held_at : List ℕ → Held
held_at s = held_in (opening_at s) (parts_at s)
