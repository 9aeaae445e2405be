-- Runs of calls: pieces fed to lanes, plain texts handed in by NEXUS files, closings and withdrawals, one after another.
--
--   Call                 feed l p: the piece p to lane l; hand t: the plain text t of a NEXUS file, to no real lane; close l: closing lane l;
--                        withdraw k: withdrawing tree k
--   Heard                what a call answers: fed, with how many bytes it took and the answer; or closed_lane or withdrew, with the answer
--   answers h cs         what the calls cs answer, in order, on the collection h
--   ending h cs          what is held after them
--   Final                a final answer: one that is not "more wanted", without the number of bytes taken
--   finals hs            the final answers among the answers hs, in order
--   ends_in us l p        the piece p, fed to lane l, ends a text, where the bytes us are pending
--   pending_after us cs   for each lane, the bytes that are pending after the calls cs, if before them us are
--   whole_texts n cs      the calls cs on n lanes with every text fed whole: at its semicolon, or at its lane's closing
--   on_lane g c           the call c, on lane g l in place of l
--   on_one_lane n l        lane 0 for each of n lanes; a lane that does not exist stays
use Rattle.std.specs.Prelude.{ℕ, suc, Bool, false, List, [], ◌∷◌, ◌++◌, ltb, length, get_or, set, replicate, if◌then◌else◌}
use Rattle.trees.specs.Plain.{Answer, refused, gives}
use Rattle.trees.specs.Text.{semicolon, open_after, has_end, before_end}
use Rattle.trees.specs.Held.{Held, Progress, more_wanted, accepted, finished, recording, feeding, closing}
use Rattle.trees.specs.NexusCall.{on_text}
use Rattle.trees.specs.Withdrawing.{withdrawing}

-- ---- calls and what they answer

pub data Call : Type 0 where
  feed : ℕ → List ℕ → Call
  hand : List ℕ → Call
  close : ℕ → Call
  withdraw : ℕ → Call

pub data Heard : Type 0 where
  fed : ℕ → Answer Progress → Heard
  closed_lane : Answer (Unit {0}) → Heard
  withdrew : Answer (Unit {0}) → Heard

-- a text that is handed in is "judged as its plain text handed whole to an empty lane", its semicolon taken with it
unfoldable pub answer : Held → Call → Heard
unfolding feeding finished on_text closing withdrawing
answer h (feed l p) = fed (feeding h l p).taken (feeding h l p).answer
answer h (hand t) = fed (suc (length t)) (finished h (on_text h t))
answer h (close l) = closed_lane (closing h l).answer
answer h (withdraw k) = withdrew (withdrawing h k).answer

unfoldable pub next : Held → Call → Held
unfolding feeding recording on_text closing withdrawing
next h (feed l p) = (feeding h l p).after
next h (hand t) = recording h (on_text h t)
next h (close l) = (closing h l).after
next h (withdraw k) = (withdrawing h k).after

unfoldable pub answers : Held → List Call → List Heard
unfolding answer next
answers h [] = []
answers h (c ∷ cs) = answer h c ∷ answers (next h c) cs

unfoldable pub ending : Held → List Call → Held
unfolding next
ending h [] = h
ending h (c ∷ cs) = ending (next h c) cs

-- ---- final answers

-- "accepted, with the tree's number"; "refused, with a number"; what a closing and a withdrawal answer
pub data Final : Type 0 where
  accepted_as : ℕ → Final
  refused_with : ℕ → Final
  closed_with : Answer (Unit {0}) → Final
  withdrawn_with : Answer (Unit {0}) → Final

-- every answer but "more wanted"
unfoldable pub finals : List Heard → List Final
finals [] = []
finals (fed n (gives more_wanted) ∷ hs) = finals hs
finals (fed n (gives (accepted t)) ∷ hs) = accepted_as t ∷ finals hs
finals (fed n (refused k) ∷ hs) = refused_with k ∷ finals hs
finals (closed_lane a ∷ hs) = closed_with a ∷ finals hs
finals (withdrew a ∷ hs) = withdrawn_with a ∷ finals hs

-- ---- whole texts

-- `pending` has, for each lane, every byte fed to it since its last text ended or it was closed, however many
unfoldable pub ends_in : List (List ℕ) → ℕ → List ℕ → Bool
unfolding has_end open_after
ends_in pending l p = has_end (open_after false (get_or pending l [])) p

unfoldable pub pending_after : List (List ℕ) → List Call → List (List ℕ)
unfolding ends_in
pending_after pending [] = pending
pending_after pending (feed l p ∷ cs) = pending_after (set pending l (if ends_in pending l p then [] else get_or pending l [] ++ p)) cs
pending_after pending (hand t ∷ cs) = pending_after pending cs
pending_after pending (close l ∷ cs) = pending_after (set pending l []) cs
pending_after pending (withdraw k ∷ cs) = pending_after pending cs

-- A piece that ends a text: the text is fed whole; one that does not only adds to the pending bytes. A closing finds them all fed.
-- A text that is handed in is whole; a withdrawal stays in its place, and a call to a lane that does not exist as it is.
unfoldable pub texts_after : List (List ℕ) → List Call → List Call
unfolding ends_in before_end open_after
texts_after pending [] = []
texts_after pending (feed l p ∷ cs) =
    if ltb l (length pending) then
    if ends_in pending l p then
    feed l (get_or pending l [] ++ before_end (open_after false (get_or pending l [])) p ++ semicolon ∷ []) ∷ texts_after (set pending l []) cs
    else texts_after (set pending l (get_or pending l [] ++ p)) cs
    else feed l p ∷ texts_after pending cs
texts_after pending (hand t ∷ cs) = hand t ∷ texts_after pending cs
texts_after pending (close l ∷ cs) =
    if ltb l (length pending) then feed l (get_or pending l []) ∷ close l ∷ texts_after (set pending l []) cs
    else close l ∷ texts_after pending cs
texts_after pending (withdraw k ∷ cs) = withdraw k ∷ texts_after pending cs

-- on n lanes, nothing pending
unfoldable pub whole_texts : ℕ → List Call → List Call
unfolding texts_after
whole_texts n cs = texts_after (replicate n []) cs

-- ---- other lanes for the same calls

unfoldable pub on_lane : (ℕ → ℕ) → Call → Call
on_lane g (feed l p) = feed (g l) p
on_lane g (hand t) = hand t
on_lane g (close l) = close (g l)
on_lane g (withdraw k) = withdraw k

unfoldable pub on_one_lane : ℕ → ℕ → ℕ
on_one_lane n l = if ltb l n then 0 else l
