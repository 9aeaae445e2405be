-- The verdict on a lane's text, case by case. Assumes nothing.
--
--   verdict-over, verdict-refused, verdict-room     the verdict on a lane that ran over; on a text that is refused; on one that gives splits
--   opening-kept       a lane changed: the opening stays
--   accepts-size       the lent bytes are as many as before
--   finish-refused     a refused text: the lane is empty, and nothing else has changed
--   finish-room        a text that gives splits: refused for want of room, or recorded
use Rattle.std.specs.Prelude.{ℕ, ◌<◌, ◌≡◌, refl, Bool, List, [], Result, Option}
use Rattle.std.proofs.Common.{arith, ◌∙◌, inr, true≢false}
use Rattle.std.proofs.Math.Path.{sym, ap, subst}
use Rattle.std.proofs.Math.ListN.{length}
use Rattle.trees.specs.Plain.{Answer, refused, gives}
use Rattle.trees.specs.Opening.{store_size}
use Rattle.trees.specs.Held.{Held, Lane, holding, overrun, lane_of, with_lane, with_tree, room_for, with_room, verdict, finished, recording, accepted}
use Rattle.trees.specs.Verdict.{Branches, judged_with}
use Rattle.answers.specs.Answers.{progress_given}
use Rattle.head.specs.Head.{numbers_at, opening_at}
use Rattle.layout.specs.Store.{trees_held_at, held_at, held_in}
use Rattle.store.specs.RecordedAtLaws.{trees-length}
use Rattle.lanes.specs.Lanes.{LaneIs}
use Rattle.store.specs.Lent.{Holds}
use Rattle.recording.specs.Recording.{Accepts}
use Rattle.feeding.specs.Feeding.{is_accepted}
use Rattle.feeding.specs.Texts.{verdict_on, Finished}
use Rattle.feeding.specs.HoldLaws.{size-held, lane_below, lane-holds}
use Rattle.answers.specs.declared.Refusal.{Refusal}
use Rattle.answers.specs.declared.Tree.{Tree}

-- ---- the verdict

abbrev judged_of : List ℕ → List ℕ → Answer Branches
judged_of s x = judged_with (opening_at s).numbers.kept (opening_at s).names x

module _ (s : List ℕ) (l : ℕ) where
  pub verdict-over : (q : Bool) → lane_of (held_at s) l ≡ overrun q → verdict_on s l ≡ refused 6
  unfolding verdict_on verdict
  verdict-over q e = rw e

  verdict-held : (x : List ℕ) → lane_of (held_at s) l ≡ holding x → verdict_on s l ≡ with_room (held_at s) (judged_of s x)
  unfolding verdict_on verdict held_in
  verdict-held x e = rw e

  pub verdict-refused : (x : List ℕ) (k : ℕ) → lane_of (held_at s) l ≡ holding x → judged_of s x ≡ refused k → verdict_on s l ≡ refused k
  unfolding with_room
  verdict-refused x k e q = verdict-held x e ∙ rw q

  pub verdict-room : (x : List ℕ) (t : Branches) → lane_of (held_at s) l ≡ holding x → judged_of s x ≡ gives t → verdict_on s l ≡ room_for (held_at s) t
  unfolding with_room
  verdict-room x t e q = verdict-held x e ∙ rw q

-- ---- a lane changed

module _ (s : List ℕ) (l : ℕ) (y : Lane) (u : List ℕ) (c : LaneIs s l y u) where
  pub opening-kept : opening_at u ≡ opening_at s
  unfolding held_in with_lane
  opening-kept = ap (λ (h : Held). h.opening) c.held

  room-kept : (t : Branches) → room_for (held_at u) t ≡ room_for (held_at s) t
  unfolding room_for with_lane
  room-kept t = ap (λ (h : Held). room_for h t) c.held

  trees-kept : trees_held_at u ≡ length (held_at s).trees
  unfolding with_lane
  trees-kept = sym (trees-length u) ∙ ap (λ (h : Held). length h.trees) c.held

-- ---- the text is judged, and the lane empty

pub accepts-size : (a : Answer Branches) (s : List ℕ) (r : Result (Option Tree) Refusal) (t : List ℕ) → Accepts a s r t → length t ≡ length s
unfolding Accepts
accepts-size (refused k) s r t h = ap length h.1
accepts-size (gives x) s r t h = h.1.size

module _ (s : List ℕ) (l : ℕ) (h : l < (numbers_at s).lanes) (u : List ℕ) (c : LaneIs s l (holding []) u) where
  pub finish-refused : (r : Result (Option Tree) Refusal) (k : ℕ) → verdict_on s l ≡ refused k → progress_given r ≡ refused k → Finished s l r u
  unfolding finished recording
  finish-refused r k v e = record {
    answer = rw v e;
    left = rw v (record { holds = lane-holds s l (holding []) u h c; outside = λ z. c.outside });
  }

  recorded-holds : (x : Branches) (t : List ℕ) → Holds (with_tree (held_at u) x) u t → Holds (with_lane (with_tree (held_at s) x) l (holding [])) s t
  unfolding with_lane with_tree
  recorded-holds x t g = record {
    whole = g.whole;
    held = g.held ∙ ap (λ (z : Held). with_tree z x) c.held;
    size = g.size ∙ c.size;
    behind = λ i b.
        let p = size-held s in
        let q = ap (λ (z : Held). store_size z.opening.numbers) c.held in
        g.behind i (omega arith) ∙ c.outside i (inr (omega (arith, lane_below s l h)));
  }

  pub finish-room : (x y : Branches) (t : List ℕ) (r : Result (Option Tree) Refusal) → y ≡ x → verdict_on s l ≡ room_for (held_at s) x → Accepts (room_for (held_at u) y) u r t → Finished s l r t
  finish-room x y t r d v g =
      go (room_for (held_at s) x) refl (subst (λ (z : Answer Branches). Accepts z u r t) (ap (room_for (held_at u)) d ∙ room-kept s l (holding []) u c x) g)
    where
      go : (z : Answer Branches) → room_for (held_at s) x ≡ z → Accepts z u r t → Finished s l r t
      go (refused k) e q = unfold Accepts in subst (Finished s l r) (sym q.1) (finish-refused r k (v ∙ e) q.0)
      go (gives y) e q =
          unfold Accepts finished recording is_accepted in
          record {
            answer = rw (v ∙ e) (q.0 ∙ ap (λ (n : ℕ). gives (accepted n)) (trees-kept s l (holding []) u c));
            left = rw (v ∙ e) (record { holds = recorded-holds y t q.1; outside = λ z. absurd (true≢false z) });
          }
