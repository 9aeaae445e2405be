-- The promises of inner functions that change a store leave one outcome, by what it holds. Each theorem is over the function's own `Post`;
-- where it needs what the `requires` say, over its `Pre` as well. Assumes nothing.
--
--   extend-lane-once, empty-lane-once     a lane changed: the store, and every byte outside the lane
--   accepted_free, accept-once             a tree accepted: the answer; without room every byte, else the store
use Rattle.std.specs.Prelude.{ℕ, ◌<◌, ◌≡◌, List, Result, Option}
use Rattle.trees.specs.Plain.{Answer, refused, gives}
use Rattle.trees.specs.Verdict.{Branches}
use Rattle.trees.specs.Held.{Lane, room_for, with_lane, with_tree}
use Rattle.head.specs.Head.{numbers_at}
use Rattle.layout.specs.Store.{held_at}
use Rattle.lanes.specs.Lanes.{LaneIs}
use Rattle.recording.specs.Recording.{tree_given, Accepts}
use Rattle.feeding.specs.HoldLaws.{lane-holds}
use Rattle.lanes.proofs.extend_lane.Reads as extend-lane
use Rattle.lanes.proofs.empty_lane.Reads as empty-lane
use Rattle.recording.proofs.accept.Reads as accept
use Rattle.promises.specs.Once.{Once, OnceIf, arg1, arg2, arg3, arg4, Free, nothing, lane, store, SameBut}
use Rattle.promises.specs.Outcomes.{both, progress-one, holds-both, outside-both}
use Rattle.answers.specs.declared.Refusal.{Refusal}
use Rattle.answers.specs.declared.Tree.{Tree}

-- ---- a lane

lane-both : (s : List ℕ) (l : ℕ) (x : Lane) (t u : List ℕ) → l < (numbers_at s).lanes → LaneIs s l x t → LaneIs s l x u → SameBut (lane l) t u
unfolding SameBut
lane-both s l x t u h a b =
    (holds-both (with_lane (held_at s) l x) s t u (lane-holds s l x t h a) (lane-holds s l x u h b), outside-both s l t u a.outside b.outside)

pub extend-lane-once : OnceIf extend-lane.Pre extend-lane.Post (λ x q r y z. SameBut (lane (arg2 x).0) (arg1 y).now (arg1 z).now)
extend-lane-once k x q r y z p a b = lane-both _ _ _ _ _ p.1 a b

pub empty-lane-once : OnceIf empty-lane.Pre empty-lane.Post (λ x q r y z. SameBut (lane (arg2 x).0) (arg1 y).now (arg1 z).now)
empty-lane-once k x q r y z p a b = lane-both _ _ _ _ _ p.1 a b

-- ---- a tree

-- where there is no room every byte stays as found
unfoldable pub accepted_free : Answer Branches → Free
accepted_free (refused n) = nothing
accepted_free (gives b) = store

accepts-both : (v : Answer Branches) (s : List ℕ) (q r : Result (Option Tree) Refusal) (t u : List ℕ) → Accepts v s q t → Accepts v s r u → (q ≡ r) × SameBut (accepted_free v) t u
unfolding Accepts accepted_free SameBut
accepts-both (refused n) s q r t u a b = (progress-one q r (both a.0 b.0), both a.1 b.1)
accepts-both (gives x) s q r t u a b = (progress-one q r (both a.0 b.0), holds-both (with_tree (held_at s) x) s t u a.1 b.1)

pub accept-once : Once accept.Post
    (λ x q r y z. (q ≡ r)
    × SameBut (accepted_free (room_for (held_at (arg1 x).now) (tree_given (arg1 x).now (arg2 x) (arg3 x).now (arg4 x).now))) (arg1 y).now (arg1 z).now)
accept-once k x q r y z a b = accepts-both _ _ q r _ _ a b
