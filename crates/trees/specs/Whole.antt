-- What "whole" asks of a tree's splits and of its lengths, of a lane and of an opening. What it asks of the lent bytes (counts, hash places,
-- identifiers, rooms, size) is said where the bytes are: `whole_at` of crate `store`.
--
--   rising l           each mask is greater than the one before
--   agree_in_pairs l     every two masks of l agree
--   good_tree n t       a tree's splits: proper for n, rising, agreeing in pairs
--   good_length x       a length, where there is one: finite and not minus zero
--   good_branches ..    the lengths of a tree: one for each split where lengths are kept, else none
--   good_lengths ..     so they are for each of the trees
--   good_lane l         a lane's text has a length in range
--   good_opening o      numbers, constants and names pass the opening checks
use Rattle.std.specs.Prelude.{ℕ, Bool, true, false, ◌&&◌, List, [], ◌∷◌, leb, ltb, eqb, length, if◌then◌else◌}
use Rattle.std.proofs.Math.Option.{none, some}
use Rattle.trees.specs.Plain.{every}
use Rattle.trees.specs.Mask.{agree, proper}
use Rattle.trees.specs.Names.{good_names}
use Rattle.trees.specs.Value.{Length, proper as proper_double}
use Rattle.trees.specs.Opening.{Opening, in_range, good_constants}
use Rattle.trees.specs.Held.{Lane, holding, overrun, most_text}

unfoldable pub rising : List ℕ → Bool
unfolding every
rising [] = true
rising (m ∷ l) = every (ltb m) l && rising l

unfoldable pub agree_in_pairs : List ℕ → Bool
unfolding every agree
agree_in_pairs [] = true
agree_in_pairs (m ∷ l) = every (agree m) l && agree_in_pairs l

-- "recorded masks are proper for n"; "each tree lists recorded splits, rising and agreeing in pairs"
unfoldable pub good_tree : ℕ → List ℕ → Bool
unfolding every proper rising agree_in_pairs
good_tree n t = every (proper n) t && (rising t && agree_in_pairs t)

-- "Whole now asks stored lengths to be finite and not minus zero"; a branch may have none
unfoldable pub good_length : Length → Bool
unfolding proper_double
good_length none = true
good_length (some x) = proper_double x

-- the lengths xs of a tree with the splits t: one for each where lengths are kept, else none
unfoldable pub good_branches : ℕ → List ℕ → List Length → Bool
unfolding every good_length
good_branches kept t xs = eqb (length xs) (if eqb kept 0 then 0 else length t) && every good_length xs

-- as many lists of lengths as trees
unfoldable pub good_lengths : ℕ → List (List ℕ) → List (List Length) → Bool
unfolding good_branches
good_lengths kept [] [] = true
good_lengths kept [] (xs ∷ xss) = false
good_lengths kept (t ∷ ts) [] = false
good_lengths kept (t ∷ ts) (xs ∷ xss) = good_branches kept t xs && good_lengths kept ts xss

-- "each lane's length is in range"
unfoldable pub good_lane : Lane → Bool
good_lane (overrun q) = true
good_lane (holding s) = leb (length s) most_text

-- "all numbers and names pass the opening checks"
unfoldable pub good_opening : Opening → Bool
unfolding in_range good_constants good_names
good_opening o = in_range o.numbers && (good_constants o.numbers o.first o.second && good_names o.numbers.taxa o.names)
