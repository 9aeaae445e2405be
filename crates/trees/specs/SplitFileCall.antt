-- The calls on split files. An open collection gives names and n; none of them changes what it holds, nor a file. `room` is how many elements
-- a lent buffer has.
--
--   records_from n f          the records of the file f over n taxa, or its refusal: 19 or 20
--   file_of h room            the file of the collection's splits
--   reading_of h f m c        what the file f reads as: how many trees, the masks and the counts, into buffers of m masks and c counts
--   merging_of h f g room     the two files f and g, merged
--   chosen_tree ..            the tree of the splits that are chosen from a file, or its refusal: 14, 23 or 4
--   strict_file_of h f room    the strict tree of the file f, written
--   majority_file_of ..        its majority tree, written
use Rattle.std.specs.Prelude.{ℕ, ◌/◌, ◌%◌, ◌||◌, List, map, ltb, eqb, length, if◌then◌else◌}
use Rattle.trees.specs.Plain.{Answer, refused, gives}
use Rattle.trees.specs.Written.{written}
use Rattle.trees.specs.Held.{Held}
use Rattle.trees.specs.Questions.{if_room}
use Rattle.trees.specs.Whole.{agree_in_pairs}
use Rattle.trees.specs.SplitFile.{Record, record_bytes, bytes_of, records_in, trees_of, masks_of, well_formed, splits_of, merged, fits, strict_in, majority_in}

-- "19 length no multiple of 16, 20 record improper or out of order"
unfoldable pub records_from : ℕ → List ℕ → Answer (List Record)
unfolding records_in well_formed
records_from n f =
    let rs = records_in (length f / record_bytes) f in
    if eqb (length f % record_bytes) 0 then
    if well_formed n rs then gives rs else refused 20
    else refused 19

-- what is made of a file's records, unless it is refused
unfoldable pub if_records : {A : Type 0} → Held → List ℕ → (List Record → Answer A) → Answer A
unfolding records_from
if_records h f make = elim (records_from h.opening.numbers.taxa f) [ refused k ↦ refused k | gives rs ↦ make rs ]

-- where trees have no splits, an empty file; "4 last"
unfoldable pub file_of : Held → ℕ → Answer (List ℕ)
unfolding if_room bytes_of splits_of
file_of h room = if_room room (bytes_of (splits_of h.trees))

-- what a file reads as; of an empty one "no splits", and 0 for a number of trees that is not known
pub record Splits : Type 0 where
  pub trees : ℕ
  pub masks : List ℕ
  pub counts : List ℕ

unfoldable pub reading_of : Held → List ℕ → ℕ → ℕ → Answer Splits
unfolding if_records trees_of masks_of
reading_of h f mask_room count_room =
    if_records h f (λ rs.
    if ltb mask_room (length rs) || ltb count_room (length rs) then refused 4
    else gives (record { trees = trees_of rs; masks = masks_of rs; counts = map (λ r. r.count) rs }))

-- "21 merge with an empty file, 22 a sum past 32 bits"; "4 last"
unfoldable pub merge_records : List Record → List Record → ℕ → Answer (List ℕ)
unfolding merged fits if_room bytes_of
merge_records a b room =
    if eqb (length a) 0 || eqb (length b) 0 then refused 21
    else if fits (merged a b) then if_room room (bytes_of (merged a b)) else refused 22

-- "both for the first file, then for the second"
unfoldable pub merging_of : Held → List ℕ → List ℕ → ℕ → Answer (List ℕ)
unfolding if_records merge_records
merging_of h f g room = if_records h f (λ a. if_records h g (λ b. merge_records a b room))

-- "its consensus is 14"; "23 two chosen splits disagree"; "4 last"
unfoldable pub chosen_tree : Held → List Record → List ℕ → ℕ → Answer (List ℕ)
unfolding agree_in_pairs if_room written
chosen_tree h rs chosen room =
    if eqb (length rs) 0 then refused 14
    else if agree_in_pairs chosen then if_room room (written h.opening.names chosen) else refused 23

unfoldable pub strict_file_of : Held → List ℕ → ℕ → Answer (List ℕ)
unfolding if_records chosen_tree strict_in
strict_file_of h f room = if_records h f (λ rs. chosen_tree h rs (strict_in rs) room)

unfoldable pub majority_file_of : Held → List ℕ → ℕ → Answer (List ℕ)
unfolding if_records chosen_tree majority_in
majority_file_of h f room = if_records h f (λ rs. chosen_tree h rs (majority_in rs) room)
