-- Closing a lane, return by return. Assumes nothing.
--
--   close-not-whole, close-no-lane, close-lane     what each return of the code promises
use Rattle.std.specs.Prelude.{ℕ, ◌≤◌, ◌<◌, ◌≡◌, refl, true, false, List, [], Result, Err}
use Rattle.std.proofs.Math.Path.{sym}
use Rattle.std.proofs.Common.{ap, ◌∙◌}
use borrow.Author.Tests.{le-ltb}
use Rattle.trees.specs.Plain.{refused}
use Rattle.trees.specs.Held.{holding, Closed, closing}
use Rattle.answers.specs.declared.Refusal.TheVariants as why
use Rattle.answers.specs.Answers.{refusal_number, finish_given}
use Rattle.head.specs.Head.{numbers_at}
use Rattle.layout.specs.Store.{held_at}
use Rattle.layout.specs.WholeStore.{whole_at}
use Rattle.store.specs.HeldWholeLaws.{held-numbers}
use Rattle.lanes.specs.Lanes.{LaneIs}
use Rattle.lanes.specs.ClosingLaws.{closing-here}
use Rattle.feeding.specs.Feeding.{reached, closed_of, ClosedAs}
use Rattle.feeding.specs.HoldLaws.{lane-holds, not-whole, no-lane, in_place, both_ways}
use Rattle.answers.specs.declared.Refusal.{Refusal}

module _ (s : List ℕ) (l : ℕ) where
  closed-not-whole : whole_at s ≡ false → (closed_of s l).answer ≡ refused 1
  unfolding closed_of
  closed-not-whole e = rw e

  pub close-not-whole : whole_at s ≡ false → ClosedAs s l (Err why.NotWhole) s
  unfolding finish_given refusal_number
  close-not-whole e = record {
    answer = sym (closed-not-whole e);
    found = λ f. refl;
    holds = λ f. absurd (both_ways (reached s l) (not-whole s l e) f);
    outside = λ i b. refl;
  }

  module _ (w : whole_at s ≡ true) where
    closed-whole : closed_of s l ≡ closing (held_at s) l
    unfolding closed_of
    closed-whole = rw w

    module _ (h : (numbers_at s).lanes ≤ l) where
      closing-nowhere : (closing (held_at s) l).answer ≡ refused 5
      unfolding closing
      closing-nowhere = rw (held-numbers s, le-ltb l (numbers_at s).lanes h)

      pub close-no-lane : ClosedAs s l (Err why.NoLane) s
      unfolding finish_given refusal_number
      close-no-lane = record {
        answer = sym (ap (λ (c : Closed). c.answer) closed-whole ∙ closing-nowhere);
        found = λ f. refl;
        holds = λ f. absurd (both_ways (reached s l) (no-lane s l h) f);
        outside = λ i b. refl;
      }

    module _ (h : l < (numbers_at s).lanes) where
      pub close-lane : (r : Result (Unit {0}) Refusal) (t : List ℕ) → finish_given r ≡ (closing (held_at s) l).answer → LaneIs s l (holding []) t → ClosedAs s l r t
      close-lane r t e c = record {
        answer = rw closed-whole e;
        found = λ f. absurd (both_ways (reached s l) f (in_place s l w h));
        holds = λ f. rw (closed-whole, closing-here s l h) (lane-holds s l (holding []) t h c);
        outside = c.outside;
      }
