-- A lane of a store, as its bytes have it. Assumes nothing.
--
--   text-over, text-holds      the lane that begins at a: a length past 4,608 says that it ran over, any other how many bytes it holds
-- of a whole store:
--   lane-few                   a lane's number is small
--   lane-end                   its bytes lie inside the store
--   lane-fits                  its length is at most 4,610
--   lane-overrun, lane-holding     what the length says of the lane that is held
--   open-over, open-held       whether quotes are open behind its text
use Rattle.std.specs.Prelude.{ℕ, ◌+◌, ◌≤◌, ◌<◌, ◌≡◌, Bool, List, eqb, length, take, drop}
use Rattle.std.proofs.Common.{arith, ◌∙◌, eq-eqb, ne_eqb}
use Rattle.std.proofs.Math.Path.{sym, ap}
use Rattle.std.proofs.Math.Logic.{⊎_elim}
use Rattle.std.proofs.Math.Bool.{true, false}
use Rattle.trees.specs.Text.{open_after}
use Rattle.trees.specs.Opening.{lane_bytes}
use Rattle.trees.specs.Held.{holding, overrun, lane_of, most_text, open_in}
use Rattle.theorems.specs.ListLaws.{if-true, if-false, equal_or_not}
use Rattle.fields.specs.Field.{number}
use Rattle.head.specs.Head.{numbers_at}
use Rattle.layout.specs.Store.{lane_from, text_from, held_in, held_at, ran_over, ran_over_open}
use Rattle.layout.specs.StoreLaws.{length-is, lane-is}
use Rattle.layout.specs.WholeStore.{whole_at}
use Rattle.layout.specs.WholeFacts.{whole-at-facts}
use Rattle.layout.specs.InsideLaws.{ranges, lane_inside}
use Rattle.lanes.specs.Lanes.{over_length}

-- ---- any bytes

module _ (s : List ℕ) (a : ℕ) where
  pub text-over : (q : Bool) → number 2 s a ≡ over_length q → text_from s a ≡ overrun q
  unfolding text_from over_length
  text-over true e = if-false _ _ (ne_eqb (number 2 s a) ran_over (λ z. omega arith)) ∙ if-true _ _ (eq-eqb _ _ e)
  text-over false e = if-true _ _ (eq-eqb _ _ e)

  pub text-holds : number 2 s a ≤ most_text → text_from s a ≡ holding (take (number 2 s a) (drop (a + 8) s))
  unfolding text_from
  text-holds h = if-false _ _ (ne_eqb (number 2 s a) ran_over (λ z. omega arith)) ∙ if-false _ _ (ne_eqb (number 2 s a) ran_over_open (λ z. omega arith))

-- ---- whole bytes

module _ (s : List ℕ) (w : whole_at s ≡ true) (l : ℕ) (m : l < (numbers_at s).lanes) where
  pub lane-few : l < 65536
  lane-few = omega (arith, (ranges s (whole-at-facts s w).head).most-lanes)

  pub lane-end : lane_from l + lane_bytes ≤ length s
  lane-end = lane_inside s (whole-at-facts s w).head l m

  pub lane-fits : number 2 s (lane_from l) ≤ ran_over_open
  lane-fits = rw (← length-is s l m) ((whole-at-facts s w).lanes l m)

  lane-of : lane_of (held_at s) l ≡ text_from s (lane_from l)
  unfolding lane_of held_in
  lane-of = lane-is s l m

  -- n the length, as the code has it
  module _ (n : ℕ) (is : n ≡ number 2 s (lane_from l)) where
    pub lane-overrun : most_text < n → lane_of (held_at s) l ≡ overrun (eqb n ran_over_open)
    unfolding over_length
    lane-overrun h =
        let f = lane-fits in
        lane-of
        ∙ ⊎_elim
        (λ (e : n ≡ ran_over_open). text-over s (lane_from l) true (sym is ∙ e) ∙ ap overrun (sym (eq-eqb _ _ e)))
        (λ (d : n ≡ ran_over_open → ⊥). text-over s (lane_from l) false (omega arith) ∙ ap overrun (sym (ne_eqb _ _ d)))
        (equal_or_not n ran_over_open)

    pub lane-holding : n ≤ most_text → lane_of (held_at s) l ≡ holding (take n (drop (lane_from l + 8) s))
    lane-holding h = lane-of ∙ rw is (text-holds s (lane_from l) (omega arith))

    pub open-over : most_text < n → eqb n ran_over_open ≡ open_in (lane_of (held_at s) l)
    unfolding open_in
    open-over h = sym (ap open_in (lane-overrun h))

    pub open-held : n ≤ most_text → open_after false (take n (drop (lane_from l + 8) s)) ≡ open_in (lane_of (held_at s) l)
    unfolding open_in
    open-held h = sym (ap open_in (lane-holding h))
