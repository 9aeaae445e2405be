-- What withdrawing a tree answers, of the call's own promise, on lent bytes; and what withdrawals among the calls come to. Assumes nothing.
--
--   withdraw-answered                   on whole bytes, the answer and what is held are the definitions'
--   withdraw-refused-changes-nothing    a withdrawal that is refused leaves every lent byte
--   withdraw-touches-no-lane            every byte of every lane stays
--   told-one, after_one                 single calls, one after another
--   afresh                              from an accepted opening on: the texts whose trees are left, fed one after another to a collection opened
--                                       afresh with the same arguments, are all accepted
--   afresh-holds                        what is held then is what is held after the run itself, where no lane is in mid-text; so by `steps-follow`
--                                       every further call answers the same
--   afresh-answers                      and whatever the lanes hold, every question is answered the same
--   room-serves-again                   trees withdrawn one after another, the text of each fed again at once, are accepted each time, and the
--                                       number of trees and the recorded splits are those of before
use Rattle.std.specs.Prelude.{ℕ, ◌+◌, ◌-◌, ◌≤◌, ◌<◌, ◌≡◌, refl, Bool, true, false, List, [], ◌∷◌, map, ltb, length, get_or, Result}
use Rattle.std.proofs.Common.{arith, sym, ap, ◌∙◌, inr, ltb-true}
use Rattle.std.proofs.Math.Path.{subst}
use Rattle.trees.specs.Plain.{refused, gives}
use Rattle.trees.specs.Consensus.{recorded}
use Rattle.trees.specs.Opening.{Numbers, lane_bytes}
use Rattle.trees.specs.Whole.{good_opening}
use Rattle.trees.specs.Held.{Held, opened}
use Rattle.trees.specs.Withdrawing.{Withdrawn, withdrawing}
use Rattle.trees.specs.Runs.{Call, hand, withdraw, withdrew, answer, next, answers, ending}
use Rattle.theorems.specs.ListLaws.{Mem, and_left}
use Rattle.theorems.specs.HeldLaws.{whole-facts}
use Rattle.theorems.specs.WithdrawLaws.{withdrawing-done}
use Rattle.theorems.specs.Remaining.{remaining, accepted_from, turns, turns_heard}
use Rattle.theorems.specs.AfreshLaws.{afresh-held, afresh-questions, afresh-collisions}
use Rattle.theorems.specs.RoomAgainLaws as again
use Rattle.theorems.specs.NexusFedLaws.{fed_to, EmptyLane}
use Rattle.theorems.specs.ThroughLaneLaws.{through_lane, afresh-fed, room-serves-fed}
use Rattle.answers.specs.Answers.{finish_given}
use Rattle.answers.specs.AnswerLaws.{gives≢refused}
use Rattle.head.specs.Head.{numbers_at}
use Rattle.opening.specs.Given.{opening_of}
use Rattle.layout.specs.Store.{lane_from, tree_from, held_at}
use Rattle.layout.specs.WholeStore.{whole_at}
use Rattle.store.specs.HeldWholeLaws.{held_whole}
use Rattle.store.specs.Lent.{Holds}
use Rattle.withdrawing.specs.Withdrawn.{there, withdrawn_of, WithdrawnAs}
use Rattle.promises.specs.Calls.{Question, Reply, reply, Made, one, Told, heard, told, after, told_all, after_all, handed_all}
use Rattle.promises.specs.Steps.{Asked, Opens, Step, Steps}
use Rattle.promises.specs.StepLaws.{asked-follows, step_follows, steps-follow, opening-follows, withdrawn-whole, tree-test}
use Rattle.promises.specs.RunLaws.{after-all, reply-same, run-follows}
use Rattle.answers.specs.declared.Refusal.{Refusal}

-- ---- one call

-- where there is such a tree, it is withdrawn

withdrawn-done : (s : List ℕ) (k : ℕ) → there s k ≡ true → (withdrawn_of s k).answer ≡ gives tt
unfolding there
withdrawn-done s k d =
    let w : whole_at s ≡ true = and_left (whole_at s) _ d in
    ap (λ (x : Withdrawn). x.answer)
    (withdrawn-whole s w k ∙ withdrawing-done (held_at s) k (ltb-true k (length (held_at s).trees) (sym (tree-test s w k) ∙ (unfold there in d))))

module _ (s : List ℕ) (k : ℕ) (a : Told) (t : List ℕ) (q : Step s (one (withdraw k)) a t) where
  promised : (r : Result (Unit {0}) Refusal) × WithdrawnAs s k r t × (a ≡ heard (withdrew (finish_given r)))
  unfolding Step
  promised = q

  pub withdraw-answered : whole_at s ≡ true → Holds (withdrawing (held_at s) k).after s t × (a ≡ heard (withdrew (withdrawing (held_at s) k).answer))
  unfolding after told next answer
  withdraw-answered w = step_follows s w t (one (withdraw k)) a q

  -- also of bytes that are not whole: 1 or 13
  pub withdraw-refused-changes-nothing : (n : ℕ) → a ≡ heard (withdrew (refused n)) → t ≡ s
  withdraw-refused-changes-nothing n e = go (there s k) refl
    where
      given : finish_given promised.0 ≡ refused n
      given = let d : heard (withdrew (finish_given promised.0)) ≡ heard (withdrew (refused n)) = sym promised.2 ∙ e in cc

      go : (b : Bool) → there s k ≡ b → t ≡ s
      go true d = absurd (gives≢refused tt n (sym (withdrawn-done s k d) ∙ sym promised.1.answer ∙ given))
      go false d = promised.1.found d

  -- "Lanes in mid-text are untouched"
  pub withdraw-touches-no-lane : (l : ℕ) → l < (numbers_at s).lanes → (i : ℕ) → lane_from l ≤ i → i < lane_from l + lane_bytes → get_or t i 0 ≡ get_or s i 0
  unfolding lane_from tree_from
  withdraw-touches-no-lane l h i m n = promised.1.front i (omega arith) (inr (omega arith))

-- ---- single calls

pub told-one : (lent : ℕ) (cs : List Call) (h : Held) → told_all lent h (map one cs) ≡ map heard (answers h cs)
unfolding told_all told after answers
told-one lent [] h = refl
told-one lent (c ∷ cs) h = ap (λ (as' : List Told). heard (answer h c) ∷ as') (told-one lent cs (next h c))

pub after_one : (cs : List Call) (h : Held) → after_all h (map one cs) ≡ ending h cs
unfolding after_all after ending
after_one [] h = refl
after_one (c ∷ cs) h = after_one cs (next h c)

-- ---- from one accepted opening on

module _ (x : Numbers) (names first second before s : List ℕ) (o : Opens x names first second before s) where
  abbrev begun : Held
  begun = opened (opening_of x names first second)

  good : good_opening (opening_of x names first second) ≡ true
  unfolding opened
  good =
      let b = opening-follows x names first second before s o in
      subst (λ (h : Held). good_opening h.opening ≡ true) b.held (whole-facts (held_at s) (held_whole s b.whole)).opening-good

  -- the texts whose trees are left after the calls cs
  abbrev lefts : List Made → List (List ℕ)
  lefts cs = remaining [] begun (handed_all begun cs)

  module _ (cs : List Made) (as' : List Told) (t : List ℕ) (run : Steps s cs as' t) where
    held_after : held_at t ≡ ending begun (handed_all begun cs)
    held_after = (run-follows x names first second before s o cs as' t run).0.held ∙ after-all cs begun

    -- another opening with the same arguments, and the texts that are left fed to lane l of it
    module _ (before' s' : List ℕ) (o' : Opens x names first second before' s') (l : ℕ) (e : ltb l x.lanes ≡ true) (bs : List Told) (t' : List ℕ)
        (run' : Steps s' (map one (fed_to l (lefts cs))) bs t') where
      fed : (answers begun (fed_to l (lefts cs)) ≡ accepted_from 0 (lefts cs)) × (ending begun (fed_to l (lefts cs)) ≡ ending begun (map hand (lefts cs)))
      fed = afresh-fed (opening_of x names first second) good (handed_all begun cs) l e

      follows : Holds (after_all begun (map one (fed_to l (lefts cs)))) before' t' × (bs ≡ told_all (length before') begun (map one (fed_to l (lefts cs))))
      follows = run-follows x names first second before' s' o' (map one (fed_to l (lefts cs))) bs t' run'

      pub afresh : bs ≡ map heard (accepted_from 0 (lefts cs))
      afresh = follows.1 ∙ told-one (length before') (fed_to l (lefts cs)) begun ∙ ap (map heard) fed.0

      pub afresh-holds : (held_at t).texts ≡ begun.texts → held_at t ≡ held_at t'
      afresh-holds e =
          held_after ∙ afresh-held (opening_of x names first second) good (handed_all begun cs) (sym (ap (λ (h : Held). h.texts) held_after) ∙ e)
          ∙ sym (follows.0.held ∙ after_one (fed_to l (lefts cs)) begun ∙ fed.1)

      -- "Wherever these papers say accepted trees, a withdrawn one is no longer among them"
      pub afresh-answers : (q : Question) (a b : Reply) → Asked t q a → Asked t' q b → a ≡ b
      afresh-answers q a b m n =
          let h = ending begun (handed_all begun cs) in
          let k = ending begun (map hand (lefts cs)) in
          asked-follows t (run-follows x names first second before s o cs as' t run).0.whole q a m
          ∙ ap (λ (y : Held). reply y q) held_after
          ∙ reply-same h k (afresh-questions (opening_of x names first second) good (handed_all begun cs)) q (λ _. afresh-collisions (opening_of x names first second) good (handed_all begun cs))
          ∙ ap (λ (y : Held). reply y q) (sym (follows.0.held ∙ after_one (fed_to l (lefts cs)) begun ∙ fed.1))
          ∙ sym (asked-follows t' follows.0.whole q b n)

    -- trees of these bytes withdrawn one after another, and the text of each fed to their empty lane l
    module _ (l : ℕ) (empty : EmptyLane (held_at t) l) (ks : List ℕ) (each : (k : ℕ) → Mem k ks → k < length (held_at t).trees) (bs : List Told) (u : List ℕ)
        (more : Steps t (map one (map (through_lane l) (turns (lefts cs) ks))) bs u) where
      abbrev served : List Call
      served = map (through_lane l) (turns (lefts cs) ks)

      pub room-serves-again : (bs ≡ map heard (turns_heard (length (lefts cs) - 1) (lefts cs) ks)) × (length (held_at u).trees ≡ length (held_at t).trees) × (recorded (held_at u).trees ≡ recorded (held_at t).trees)
      room-serves-again =
          let h = ending begun (handed_all begun cs) in
          let f : (k : ℕ) → Mem k ks → k < length h.trees = subst (λ (y : Held). (k : ℕ) → Mem k ks → k < length y.trees) held_after each in
          let fed = room-serves-fed (opening_of x names first second) good (handed_all begun cs) l (subst (λ (y : Held). EmptyLane y l) held_after empty) ks f in
          let r = again.room-serves-again (opening_of x names first second) good (handed_all begun cs) ks f in
          let w = steps-follow (map one served) t bs u (run-follows x names first second before s o cs as' t run).0.whole more in
          let e : held_at u ≡ ending h (turns (lefts cs) ks) = w.0.held ∙ after_one served (held_at t) ∙ ap (λ (y : Held). ending y served) held_after ∙ fed.1 in (
            w.1 ∙ told-one (length t) served (held_at t) ∙ ap (λ (y : Held). map heard (answers y served)) held_after ∙ ap (map heard) fed.0,
            ap (λ (y : Held). length y.trees) e ∙ r.trees ∙ ap (λ (y : Held). length y.trees) (sym held_after),
            ap (λ (y : Held). recorded y.trees) e ∙ r.splits ∙ ap (λ (y : Held). recorded y.trees) (sym held_after),
          )
