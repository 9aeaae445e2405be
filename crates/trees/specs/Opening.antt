-- Opening a collection: its numbers, names and constants, and what is refused.
--
--   Numbers            the numbers that an opening takes
--   most_room           the largest split room
--   in_range x          all of them are in their ranges
--   head_bytes, lane_bytes, tree_bytes     what a head, a lane and a tree take of a store
--   branch_bytes        what the lengths of a tree take of it, where lengths are kept
--   store_size x        how many bytes must be lent for a collection of these numbers
--   sizing x           the answer of the call that tells it
--   Opening            what an accepted opening fixes
--   opening ..         the opening, or its refusal: 2, 3 or 4
use Rattle.std.specs.Prelude.{ℕ, ◌+◌, ◌*◌, ◌^◌, Bool, ◌&&◌, List, leb, ltb, eqb, length, if◌then◌else◌}
use Rattle.trees.specs.Plain.{every, Answer, refused, gives}
use Rattle.trees.specs.Names.{names_in, good_names}

pub record Numbers : Type 0 where
  pub taxa : ℕ
  pub lanes : ℕ
  pub tree_room : ℕ
  pub split_room : ℕ
  pub places : ℕ
  -- "Opening says whether lengths are kept": 1, or 0 if not
  pub kept : ℕ

abbrev pub between : ℕ → ℕ → ℕ → Bool
between least most x = leb least x && leb x most

-- the largest split room
abbrev pub most_room : ℕ
most_room = 4096

-- the table of "What the collection holds", and whether lengths are kept
unfoldable pub in_range : Numbers → Bool
in_range x =
    between 4 64 x.taxa
    && (between 1 8 x.lanes
    && (between 1 1024 x.tree_room
    && (between 1 most_room x.split_room
    && (between 1 (2 * x.split_room) x.places
    && leb x.kept 1))))

-- the bytes of the head, of a lane (a text and 8 bytes before it) and of a tree
abbrev pub head_bytes : ℕ
head_bytes = 4096

abbrev pub lane_bytes : ℕ
lane_bytes = 4616

abbrev pub tree_bytes : ℕ
tree_bytes = 128

-- the bytes of a tree's lengths: 8 for each of 64
abbrev pub branch_bytes : ℕ
branch_bytes = 512

-- "at most 64 bytes per split of room, 256 per tree of room, 8,192 per lane and 8,192 besides"; at most two places go with a split; where
-- lengths are kept, "memory per tree is up to 1,024 bytes"
unfoldable pub store_size : Numbers → ℕ
store_size x = head_bytes + lane_bytes * x.lanes + tree_bytes * x.tree_room + 24 * x.split_room + 2 * x.places + branch_bytes * (x.kept * x.tree_room)

-- "numbers out of range it refuses with 2"
unfoldable pub sizing : Numbers → Answer ℕ
unfolding in_range store_size
sizing x = if in_range x then gives (store_size x) else refused 2

-- "The first list's constants are below m; the second's are any 64-bit numbers", and both lists are n long
unfoldable pub good_constants : Numbers → List ℕ → List ℕ → Bool
unfolding every
good_constants x first second =
    eqb (length first) x.taxa
    && (eqb (length second) x.taxa
    && (every (λ c. ltb c x.places) first
    && every (λ c. ltb c (2 ^ 64)) second))

pub record Opening : Type 0 where
  pub numbers : Numbers
  pub names : List (List ℕ)
  pub first : List ℕ
  pub second : List ℕ

-- "Opening checks 2, 3, 4": numbers and constants, names, the lent memory of `lent` bytes
unfoldable pub opening : Numbers → List ℕ → List ℕ → List ℕ → ℕ → Answer Opening
unfolding in_range good_constants good_names names_in store_size
opening x name_list first second lent =
    if in_range x && good_constants x first second then
    if good_names x.taxa (names_in name_list) then
    if leb (store_size x) lent then gives (record { numbers = x; names = names_in name_list; first = first; second = second })
    else refused 4
    else refused 3
    else refused 2
