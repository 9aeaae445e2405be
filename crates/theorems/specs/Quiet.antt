-- Unfinished text: calls that leave the text of one lane unfinished, and collections that differ in that text alone.
--
--   Leaves j h c       the call c on the collection h neither ends nor closes the text of lane j
--   Quiet j h cs       so do all the calls cs, one after another
--   SaveLane j h k     the same but for the text of lane j
use Rattle.std.specs.Prelude.{ℕ, ◌≡◌, false, List, [], ◌∷◌, length}
use Rattle.trees.specs.Text.{has_end}
use Rattle.trees.specs.Held.{Held, lane_of, open_in}
use Rattle.trees.specs.Runs.{Call, feed, hand, close, withdraw, next}

-- a piece to lane j ends no text behind what the lane got so far, and lane j is not closed; calls to other lanes, NEXUS files and
-- withdrawals are free
unfoldable pub Leaves : ℕ → Held → Call → Type 0
unfolding has_end open_in lane_of
Leaves j h (feed l p) = l ≡ j → has_end (open_in (lane_of h l)) p ≡ false
Leaves j h (hand t) = Unit {0}
Leaves j h (close l) = l ≡ j → ⊥
Leaves j h (withdraw k) = Unit {0}

unfoldable pub Quiet : ℕ → Held → List Call → Type 0
unfolding Leaves next
Quiet j h [] = Unit {0}
Quiet j h (c ∷ cs) = Leaves j h c × Quiet j (next h c) cs

-- the same opening, trees, lengths and number of lanes, and every other lane holds the same
pub record SaveLane (j : ℕ) (h k : Held) : Type 0 where
  pub opening : h.opening ≡ k.opening
  pub trees : h.trees ≡ k.trees
  pub lengths : h.lengths ≡ k.lengths
  pub lanes : length h.texts ≡ length k.texts
  pub others : (l : ℕ) → (l ≡ j → ⊥) → lane_of h l ≡ lane_of k l
