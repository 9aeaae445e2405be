-- What the steps of feeding do in a whole store.
--
--   Left h s l a t          the lent bytes t hold h; where the answer a accepts no tree they are as in s outside the lane l
--   FedWell s l p r t       feeding a piece to a lane that is there
--   verdict_on s l           the verdict on the text of lane l
--   Finished s l r t        the verdict on the lane's text, and the lane empty
--   texts_at h l p           how many texts the piece p ends, fed to lane l
use Rattle.std.specs.Prelude.{ℕ, ◌≡◌, false, List, [], Result, Option}
use Rattle.trees.specs.Plain.{Answer}
use Rattle.trees.specs.Verdict.{Branches}
use Rattle.trees.specs.Held.{Held, holding, lane_of, with_lane, open_in, verdict, finished, recording, feeding}
use Rattle.trees.specs.Held as held
use Rattle.trees.specs.Batch.{texts_in}
use Rattle.answers.specs.declared.Fed.{Fed}
use Rattle.answers.specs.Answers.{progress_given}
use Rattle.layout.specs.Store.{held_at, held_in}
use Rattle.store.specs.Lent.{Holds}
use Rattle.feeding.specs.Feeding.{is_accepted, SameOutside}
use Rattle.answers.specs.declared.Refusal.{Refusal}
use Rattle.answers.specs.declared.Tree.{Tree}

pub record Left (h : Held) (s : List ℕ) (l : ℕ) (a : Answer held.Progress) (t : List ℕ) : Type 0 where
  pub holds : Holds h s t
  pub outside : is_accepted a ≡ false → SameOutside s l t

pub record FedWell (s : List ℕ) (l : ℕ) (p : List ℕ) (r : Fed) (t : List ℕ) : Type 0 where
  pub taken : r.taken ≡ (feeding (held_at s) l p).taken
  pub answer : progress_given r.progress ≡ (feeding (held_at s) l p).answer
  pub left : Left (feeding (held_at s) l p).after s l (feeding (held_at s) l p).answer t

-- the verdict on the text of lane l
unfoldable pub verdict_on : List ℕ → ℕ → Answer Branches
unfolding held_in verdict lane_of
verdict_on s l = verdict (held_at s) (lane_of (held_at s) l)

pub record Finished (s : List ℕ) (l : ℕ) (r : Result (Option Tree) Refusal) (t : List ℕ) : Type 0 where
  pub answer : progress_given r ≡ finished (held_at s) (verdict_on s l)
  pub left : Left (with_lane (recording (held_at s) (verdict_on s l)) l (holding [])) s l (finished (held_at s) (verdict_on s l)) t

abbrev pub texts_at : Held → ℕ → List ℕ → ℕ
texts_at h l p = texts_in (open_in (lane_of h l)) p
