-- What "whole" means of lent bytes: of their head, and of the parts behind it.
--
--   all_below p n       every number below n passes the test p
--   splits_good         "recorded masks are proper for n and all different"; "its identifier right where one is stored"
--   list_good           "each tree lists recorded splits, rising and agreeing in pairs"
--   count_good          "each count is the number of trees listing that split, at least 1"
--   chains_good         "every split is met exactly once along its hash place", and more strictly, in one order: a place's chain starts
--                      at its highest row, and each row's link leads to the next lower one of the place (ChainLaws: `met-exactly`,
--                      `met-falls`)
--   lane_good           "each lane's length is in range"
--   branches_good       "stored lengths to be finite and not minus zero"
--   whole_in o p        all of it, of the parts p under the opening o
--   good_head s         the head is in order
--   whole_at s          the lent bytes s are a whole collection
--   good_splits ..      the tests of the parts, of those of bytes
use Rattle.std.specs.Prelude.{ℕ, zero, suc, Bool, true, ◌&&◌, List, leb, ltb, eqb, length, take, if◌then◌else◌}
use Rattle.trees.specs.Plain.{every}
use Rattle.trees.specs.Mask.{proper}
use Rattle.trees.specs.Opening.{Opening, head_bytes}
use Rattle.trees.specs.Consensus.{count}
use Rattle.trees.specs.Hash.{place, identifier}
use Rattle.trees.specs.Whole.{rising, agree_in_pairs, good_length, good_opening}
use Rattle.head.specs.Head.{numbers_at, first_at, second_at, opening_at}
use Rattle.layout.specs.Store.{size_at, Parts, parts_at, splits_in, trees_in, mask_in, masks_in, identifier_in, count_in, link_in, start_in, order_in, list_in, tree_in, branches_in, length_in, trees_held_at, splits_held_at, most_splits, ran_over_open}

unfoldable pub all_below : (ℕ → Bool) → ℕ → Bool
all_below p zero = true
all_below p (suc n) = all_below p n && p n

-- ---- splits

unfoldable pub identifier_good : List ℕ → Parts → ℕ → Bool
unfolding identifier
identifier_good second p k = eqb (identifier_in p k) (identifier second (mask_in p k))

-- the split with number k has one of the rows
unfoldable pub order_good : Parts → ℕ → Bool
order_good p k = ltb (order_in p k) (splits_in p)

-- rising masks are all different
unfoldable pub splits_good : ℕ → List ℕ → Parts → Bool
unfolding all_below order_good every proper rising identifier_good
splits_good taxa second p =
    all_below (order_good p) (splits_in p)
    && (every (proper taxa) (masks_in p)
    && (rising (masks_in p)
    && all_below (identifier_good second p) (splits_in p)))

-- ---- trees

-- a tree has at most 62 splits, which fit its place
unfoldable pub list_good : Parts → ℕ → Bool
unfolding every rising agree_in_pairs
list_good p i =
    leb (length (list_in p i)) most_splits
    && (every (λ k. ltb k (splits_in p)) (list_in p i)
    && (rising (tree_in p i)
    && agree_in_pairs (tree_in p i)))

-- how many of the first t trees list the split in row k
unfoldable pub listed_in : Parts → ℕ → ℕ → ℕ
unfolding count
listed_in p k t = count (take t p.lists) k

unfoldable pub count_good : Parts → ℕ → Bool
unfolding listed_in
count_good p k = leb 1 (count_in p k) && eqb (count_in p k) (listed_in p k (trees_in p))

-- ---- chains: h m is the place of the mask m

-- the highest of the rows below k that have the place q, and one more; 0 for none
unfoldable pub highest_in : (ℕ → ℕ) → Parts → ℕ → ℕ → ℕ
highest_in h p q zero = 0
highest_in h p q (suc k) = if eqb (h (mask_in p k)) q then suc k else highest_in h p q k

unfoldable pub link_good : (ℕ → ℕ) → Parts → ℕ → Bool
unfolding highest_in
link_good h p k = eqb (link_in p k) (highest_in h p (h (mask_in p k)) k)

unfoldable pub start_good : (ℕ → ℕ) → Parts → ℕ → Bool
unfolding highest_in
start_good h p q = eqb (start_in p q) (highest_in h p q (splits_in p))

unfoldable pub chains_good : (ℕ → ℕ) → ℕ → Parts → Bool
unfolding all_below link_good start_good
chains_good h places p = all_below (link_good h p) (splits_in p) && all_below (start_good h p) places

-- ---- lanes

-- 0 to 4,608, or 4,609 or 4,610 for a lane that ran over
unfoldable pub lane_good : Parts → ℕ → Bool
lane_good p l = leb (length_in p l) ran_over_open

-- ---- lengths

-- "Whole now asks stored lengths to be finite and not minus zero"; a branch may have none
unfoldable pub branches_good : Parts → ℕ → Bool
unfolding every good_length
branches_good p i = every good_length (branches_in p i)

-- ---- all of it

unfoldable pub whole_in : Opening → Parts → Bool
unfolding splits_good all_below list_good count_good chains_good place lane_good branches_good
whole_in o p =
    splits_good o.numbers.taxa o.second p
    && (all_below (list_good p) (trees_in p)
    && (all_below (count_good p) (splits_in p)
    && (chains_good (place o.first o.numbers.places) o.numbers.places p
    && (all_below (lane_good p) o.numbers.lanes
    && all_below (branches_good p) (trees_in p)))))

-- the head is there and in order, and "the lent bytes reach the size of these numbers"; "rooms hold"
unfoldable pub good_head : List ℕ → Bool
unfolding good_opening opening_at size_at numbers_at
good_head s =
    leb head_bytes (length s)
    && (good_opening (opening_at s)
    && (leb (size_at s) (length s)
    && (leb (trees_held_at s) (numbers_at s).tree_room
    && leb (splits_held_at s) (numbers_at s).split_room)))

unfoldable pub whole_at : List ℕ → Bool
unfolding good_head whole_in opening_at
whole_at s = good_head s && whole_in (opening_at s) (parts_at s)

-- ---- the tests of bytes

-- the place of a mask
abbrev pub place_in : List ℕ → ℕ → ℕ
place_in s m = place (first_at s) (numbers_at s).places m

abbrev pub good_identifier : List ℕ → ℕ → Bool
good_identifier s k = identifier_good (second_at s) (parts_at s) k

abbrev pub good_order : List ℕ → ℕ → Bool
good_order s k = order_good (parts_at s) k

abbrev pub good_splits : List ℕ → Bool
good_splits s = splits_good (numbers_at s).taxa (second_at s) (parts_at s)

abbrev pub good_list : List ℕ → ℕ → Bool
good_list s i = list_good (parts_at s) i

abbrev pub listed : List ℕ → ℕ → ℕ → ℕ
listed s k t = listed_in (parts_at s) k t

abbrev pub good_count : List ℕ → ℕ → Bool
good_count s k = count_good (parts_at s) k

abbrev pub highest_below : List ℕ → ℕ → ℕ → ℕ
highest_below s q k = highest_in (place_in s) (parts_at s) q k

abbrev pub good_link : List ℕ → ℕ → Bool
good_link s k = link_good (place_in s) (parts_at s) k

abbrev pub good_start : List ℕ → ℕ → Bool
good_start s q = start_good (place_in s) (parts_at s) q

abbrev pub good_chains : List ℕ → Bool
good_chains s = chains_good (place_in s) (numbers_at s).places (parts_at s)

abbrev pub good_lane_at : List ℕ → ℕ → Bool
good_lane_at s l = lane_good (parts_at s) l

abbrev pub good_branches_at : List ℕ → ℕ → Bool
good_branches_at s i = branches_good (parts_at s) i
