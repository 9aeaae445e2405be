-- What closing a lane of a whole store answers, by its bytes. Assumes nothing.
--
--   closing-here     closing answers by what the lane holds, and leaves it empty
--   closing-over     6: the lane ran over
--   closing-full     7: it holds a byte that is no blank
--   closing-done     it holds blanks at most
use Rattle.std.specs.Prelude.{ℕ, ◌+◌, ◌-◌, ◌≤◌, ◌<◌, ◌≡◌, refl, Bool, true, false, List, [], take, drop, Ok, Err}
use Rattle.std.proofs.Common.{arith, sym, ap, ◌∙◌}
use borrow.Author.Tests.{lt-ltb}
use Rattle.trees.specs.Plain.{every}
use Rattle.trees.specs.Text.{is_blank}
use Rattle.trees.specs.Held.{Lane, holding, overrun, most_text, Closed, lane_of, with_lane, closed, closing}
use Rattle.answers.specs.declared.Refusal.TheVariants as why
use Rattle.answers.specs.Answers.{finish_given}
use Rattle.fields.specs.Field.{number}
use Rattle.head.specs.Head.{numbers_at}
use Rattle.layout.specs.Store.{lane_from, held_at}
use Rattle.layout.specs.WholeStore.{whole_at}
use Rattle.store.specs.HeldWholeLaws.{held-numbers}
use Rattle.lanes.specs.LaneLaws.{lane-overrun, lane-holding}

-- ---- the answer, by the lane

over-refused : (q : Bool) → finish_given (Err why.TooLong) ≡ closed (overrun q)
unfolding finish_given closed
over-refused q = refl

text-refused : (t : List ℕ) → every is_blank t ≡ false → finish_given (Err why.BadForm) ≡ closed (holding t)
unfolding finish_given closed
text-refused t e = rw e

text-done : (t : List ℕ) → every is_blank t ≡ true → finish_given (Ok tt) ≡ closed (holding t)
unfolding finish_given closed
text-done t e = rw e

-- ---- as the code has it: n the length, and the text behind the lane's first 8 bytes

module _ (s : List ℕ) (l : ℕ) (m : l < (numbers_at s).lanes) where
  pub closing-here : closing (held_at s) l ≡ record { answer = closed (lane_of (held_at s) l); after = with_lane (held_at s) l (holding []) }
  unfolding closing
  closing-here = rw (held-numbers s, lt-ltb l (numbers_at s).lanes m)

  answer-of : (x : Lane) → lane_of (held_at s) l ≡ x → closed x ≡ (closing (held_at s) l).answer
  answer-of x e = sym (ap (λ (c : Closed). c.answer) closing-here ∙ ap closed e)

  module _ (w : whole_at s ≡ true) (n : ℕ) (is : n ≡ number 2 s (lane_from l)) where
    pub closing-over : most_text < n → finish_given (Err why.TooLong) ≡ (closing (held_at s) l).answer
    closing-over h = over-refused _ ∙ answer-of (overrun _) (lane-overrun s w l m n is h)

    module _ (held : n ≤ most_text) (from : ℕ) (at : from ≡ lane_from l) where
      text-is : lane_of (held_at s) l ≡ holding (take (from + 8 + n - (from + 8)) (drop (from + 8) s))
      text-is =
          let e : from + 8 + n - (from + 8) ≡ n = omega arith in
          lane-holding s w l m n is held ∙ rw (e, at)

      pub closing-full : every is_blank (take (from + 8 + n - (from + 8)) (drop (from + 8) s)) ≡ false
          → finish_given (Err why.BadForm) ≡ (closing (held_at s) l).answer
      closing-full e = text-refused _ e ∙ answer-of _ text-is

      pub closing-done : every is_blank (take (from + 8 + n - (from + 8)) (drop (from + 8) s)) ≡ true
          → finish_given (Ok tt) ≡ (closing (held_at s) l).answer
      closing-done e = text-done _ e ∙ answer-of _ text-is
