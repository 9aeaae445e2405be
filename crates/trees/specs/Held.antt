-- What a collection holds, and what the calls that change it do.
--
--   Lane                a lane: the bytes of its unfinished text; or that it ran over, and whether quotes are open behind its text
--   Held                what a collection holds: its opening; the accepted trees, in order of acceptance, each by its splits; for each
--                       of them the lengths of its splits, none where lengths are not kept; for each lane its unfinished text
--   opened o            a collection just opened
--   verdict h l         the verdict on the text of the lane l: 6 to 12 and 17, or the splits and lengths of the tree that is accepted
--   feeding h l p       feeding the piece p to lane l
--   closing h l         closing lane l
use Rattle.std.specs.Prelude.{ℕ, suc, ◌+◌, Bool, false, List, [], ◌∷◌, ◌++◌, ltb, eqb, length, get_or, set, replicate, if◌then◌else◌}
use Rattle.trees.specs.Plain.{every, lacking, Answer, refused, gives}
use Rattle.trees.specs.Text.{is_blank, open_after, has_end, before_end}
use Rattle.trees.specs.Value.{Length}
use Rattle.trees.specs.Verdict.{Branches, judged_with}
use Rattle.trees.specs.Consensus.{recorded}
use Rattle.trees.specs.Opening.{Opening}

pub data Lane : Type 0 where
  holding : List ℕ → Lane
  overrun : Bool → Lane

pub record Held : Type 0 where
  pub opening : Opening
  pub trees : List (List ℕ)
  pub lengths : List (List Length)
  pub texts : List Lane

-- no trees, and every lane empty
unfoldable pub opened : Opening → Held
opened o = record { opening = o; trees = []; lengths = []; texts = replicate o.numbers.lanes (holding []) }

-- the lane l of a collection, and the collection with another lane l
unfoldable pub lane_of : Held → ℕ → Lane
lane_of h l = get_or h.texts l (holding [])

unfoldable pub with_lane : Held → ℕ → Lane → Held
with_lane h l x = record { opening = h.opening; trees = h.trees; lengths = h.lengths; texts = set h.texts l x }

unfoldable pub with_tree : Held → Branches → Held
with_tree h b = record { opening = h.opening; trees = h.trees ++ b.splits ∷ []; lengths = h.lengths ++ b.lengths ∷ []; texts = h.texts }

-- "a text may now hold 4,608 bytes"
abbrev pub most_text : ℕ
most_text = 4608

-- whether quotes are open behind a lane's text, "in an overrun lane too"
unfoldable pub open_in : Lane → Bool
unfolding open_after
open_in (holding s) = open_after false s
open_in (overrun q) = q

-- past `most_text` held bytes, "blanks counted, the lane drops bytes until the semicolon"
unfoldable pub longer : Lane → List ℕ → Lane
unfolding open_after
longer (overrun q) p = overrun (open_after q p)
longer (holding s) p = if ltb most_text (length (s ++ p)) then overrun (open_after false (s ++ p)) else holding (s ++ p)

-- the splits of a tree that no accepted tree has
unfoldable pub new_splits : Held → List ℕ → List ℕ
unfolding lacking recorded
new_splits h t = lacking t (recorded h.trees)

-- "accepted trees equal the tree room"; "recorded splits and this tree's new ones together exceed the split room"
unfoldable pub room_for : Held → Branches → Answer Branches
unfolding recorded new_splits
room_for h b =
    if eqb (length h.trees) h.opening.numbers.tree_room then refused 11
    else if ltb h.opening.numbers.split_room (length (recorded h.trees) + length (new_splits h b.splits)) then refused 12
    else gives b

-- the text's own verdict first, then 11 and 12
unfoldable pub with_room : Held → Answer Branches → Answer Branches
unfolding room_for
with_room h (refused k) = refused k
with_room h (gives b) = room_for h b

-- "A verdict checks 6, then 7 over all the text, then leaves from left to right for 8 or 9, then 10, 11, 12"; 17 stands after 10
unfoldable pub verdict : Held → Lane → Answer Branches
unfolding judged_with with_room
verdict h (overrun q) = refused 6
verdict h (holding s) = with_room h (judged_with h.opening.numbers.kept h.opening.names s)

-- what feeding answers besides the bytes taken, when it refuses nothing
pub data Progress : Type 0 where
  more_wanted : Progress
  accepted : ℕ → Progress

pub record Fed : Type 0 where
  pub taken : ℕ
  pub answer : Answer Progress
  pub after : Held

-- "accepted, with the tree's number (from 0, in order of acceptance); refused, with a number"
unfoldable pub finished : Held → Answer Branches → Answer Progress
finished h (refused k) = refused k
finished h (gives b) = gives (accepted (length h.trees))

unfoldable pub recording : Held → Answer Branches → Held
unfolding with_tree
recording h (refused k) = h
recording h (gives b) = with_tree h b

-- "After a semicolon the lane is empty either way"
unfoldable pub finishing : Held → ℕ → ℕ → Answer Branches → Fed
unfolding finished recording with_lane
finishing h l taken v = record { taken = taken; answer = finished h v; after = with_lane (recording h v) l (holding []) }

-- "A call takes bytes up to the first semicolon and that semicolon, or all if there is none": the first that ends a text; 5: "no such lane"
unfoldable pub feeding : Held → ℕ → List ℕ → Fed
unfolding open_in has_end before_end longer lane_of with_lane verdict finishing
feeding h l p =
    let q = open_in (lane_of h l) in
    if ltb l h.opening.numbers.lanes then
    if has_end q p then finishing h l (suc (length (before_end q p))) (verdict h (longer (lane_of h l) (before_end q p)))
    else record { taken = length p; answer = gives more_wanted; after = with_lane h l (longer (lane_of h l) p) }
    else record { taken = 0; answer = refused 5; after = h }

pub record Closed : Type 0 where
  pub answer : Answer (Unit {0})
  pub after : Held

-- "6 if it had run over, 7 if it held any byte but blanks, else done"
unfoldable pub closed : Lane → Answer (Unit {0})
unfolding every is_blank
closed (overrun q) = refused 6
closed (holding s) = if every is_blank s then gives tt else refused 7

-- "Closing a lane empties it"; 5: "no such lane"
unfoldable pub closing : Held → ℕ → Closed
unfolding closed lane_of with_lane
closing h l =
    if ltb l h.opening.numbers.lanes then record { answer = closed (lane_of h l); after = with_lane h l (holding []) }
    else record { answer = refused 5; after = h }
