-- The texts whose trees are left: accepted, and their trees not withdrawn since.
--
--   held_bytes x            the bytes that a lane holds; none where it ran over
--   with_accepted ws a t    the texts ws and, if the answer a accepts it, the text t behind them
--   remaining_by ws h c     the texts that are left after the call c on the collection h, where before it ws are
--   remaining ws h cs      those after the calls cs, one after another
--   accepted_from n ws      what handing in the texts ws answers if all are accepted: as the trees n, n + 1 and so on
--   turns ws ks            for each number k of ks: tree k is withdrawn, and its text handed in again; ws: the texts of the trees
--   turns_heard n ws ks     what that answers if nothing is refused: the text becomes the tree n each time
use Rattle.std.specs.Prelude.{ℕ, suc, List, [], ◌∷◌, ◌++◌, length, get_or}
use Rattle.trees.specs.Plain.{Answer, refused, gives}
use Rattle.trees.specs.Text.{before_end}
use Rattle.trees.specs.Held.{Held, Lane, holding, overrun, lane_of, open_in, Progress, more_wanted, accepted, finished, feeding}
use Rattle.trees.specs.NexusCall.{on_text}
use Rattle.trees.specs.Withdrawing.{without_at}
use Rattle.trees.specs.Runs.{Call, feed, hand, close, withdraw, Heard, fed, withdrew, next}

-- ---- the texts that are left

unfoldable pub held_bytes : Lane → List ℕ
held_bytes (holding s) = s
held_bytes (overrun q) = []

unfoldable pub with_accepted : List (List ℕ) → Answer Progress → List ℕ → List (List ℕ)
with_accepted ws (refused k) t = ws
with_accepted ws (gives more_wanted) t = ws
with_accepted ws (gives (accepted n)) t = ws ++ t ∷ []

-- the text that a piece ends is what its lane holds and the piece up to that end; without a tree k, nothing is withdrawn
unfoldable pub remaining_by : List (List ℕ) → Held → Call → List (List ℕ)
unfolding held_bytes with_accepted without_at lane_of open_in before_end feeding finished on_text
remaining_by ws h (feed l p) = with_accepted ws (feeding h l p).answer (held_bytes (lane_of h l) ++ before_end (open_in (lane_of h l)) p)
remaining_by ws h (hand t) = with_accepted ws (finished h (on_text h t)) t
remaining_by ws h (close l) = ws
remaining_by ws h (withdraw k) = without_at k ws

unfoldable pub remaining : List (List ℕ) → Held → List Call → List (List ℕ)
unfolding remaining_by next
remaining ws h [] = ws
remaining ws h (c ∷ cs) = remaining (remaining_by ws h c) (next h c) cs

-- ---- texts that are handed in again

unfoldable pub accepted_from : ℕ → List (List ℕ) → List Heard
accepted_from n [] = []
accepted_from n (w ∷ ws) = fed (suc (length w)) (gives (accepted n)) ∷ accepted_from (suc n) ws

unfoldable pub turns : List (List ℕ) → List ℕ → List Call
unfolding without_at
turns ws [] = []
turns ws (k ∷ ks) = withdraw k ∷ hand (get_or ws k []) ∷ turns (without_at k ws ++ get_or ws k [] ∷ []) ks

unfoldable pub turns_heard : ℕ → List (List ℕ) → List ℕ → List Heard
unfolding without_at
turns_heard n ws [] = []
turns_heard n ws (k ∷ ks) = withdrew (gives tt) ∷ fed (suc (length (get_or ws k []))) (gives (accepted n)) ∷ turns_heard n (without_at k ws ++ get_or ws k [] ∷ []) ks
