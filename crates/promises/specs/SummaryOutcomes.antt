-- The promises of the summary's four calls leave one outcome each. Each theorem is over the function's own `Post`, and none asks anything of the
-- arguments. Assumes nothing.
--
--   Alike t u              two lent bytes are the same, or they are alike in what they hold, in how many they are, and past the store's size
--   TookAlike, FinishedAlike     what two outcomes of taking a piece, and of finishing, have in common, by the state: behind the first line every
--                          byte is the same but for what feeding or closing leaves free; behind a refusal every byte
--   begin-once             beginning
--   take-once              taking a piece: the state, every byte of the buffer for names, and the lent bytes
--   finish-once            finishing
--   summary-lines-once     giving lines: the answer, and every byte of the buffer
use Rattle.std.specs.Prelude.{ℕ, ◌+◌, ◌≡◌, refl, ◌⊎◌, Bool, true, false, List, length, drop, Result, Ok, Err}
use Rattle.std.proofs.Common.{arith, subst, ◌∙◌, inr}
use Rattle.std.proofs.Math.Path.{sym, ap}
use Rattle.std.proofs.Math.Logic.{inl}
use Rattle.trees.specs.Plain.{Answer, refused, gives}
use Rattle.trees.specs.Opening.{Opening}
use Rattle.trees.specs.Held.{Held, opened, closing}
use Rattle.trees.specs.Batch.{refused_in, refused_after}
use Rattle.theorems.specs.OwnLaneLaws.{closing-opening}
use Rattle.answers.specs.Answers.{finish_given}
use Rattle.layout.specs.Store.{held_at}
use Rattle.store.specs.Lent.{Holds}
use Rattle.store.specs.LentLaws.{when_whole}
use Rattle.table.specs.Promises.{OpenedAs}
use Rattle.feeding.specs.Texts.{texts_at}
use Rattle.feeding.specs.CutLaws.{batching-opening}
use Rattle.summary.specs.declared.LinePart.{LinePart}
use Rattle.summary.specs.declared.Summing.{Summing}
use Rattle.summary.specs.declared.Summing.TheVariants as summing
use Rattle.summary.specs.declared.Taken.{Taken}
use Rattle.summary.specs.FirstLine.{Kept, kept_of, kept_opening}
use Rattle.summary.specs.Texts.{capped, texts_fed, texts_count, TextsAs, closed_count, ClosedAs}
use Rattle.summary.specs.PartLaws.{counted, holds_then}
use Rattle.summary.specs.Summing.{fed_state, FeedsAs, BehindAs, OpensAs, NamesAs, TakeSteps, EndsAs, ClosesAs, FinishSteps}
use Rattle.summary.proofs.begin.Reads as begins
use Rattle.summary.proofs.take.Reads as takes
use Rattle.summary.proofs.finish.Reads as finishes
use Rattle.summary.proofs.lines.Reads as lines
use Rattle.promises.specs.Once.{Once, AnswerOnce, arg1, arg2, arg3, arg4, SameStore, SameBut}
use Rattle.promises.specs.Outcomes.{both, number-one, finish-one, lengths-both, holds-both}
use Rattle.promises.specs.TextsOutcomes.{taken-both, texts_free, texts-both, closed_texts_free, closed-texts-both}
use Rattle.answers.specs.declared.Refusal.{Refusal}

-- ---- lent bytes

unfoldable pub Alike : List ℕ → List ℕ → Type 0
Alike t u = (t ≡ u) ⊎ SameStore t u

alike_same : (t u : List ℕ) → t ≡ u → Alike t u
unfolding Alike
alike_same t u e = inl e

alike-holds : (h : Held) (s t u : List ℕ) → Holds h s t → Holds h s u → Alike t u
unfolding Alike
alike-holds h s t u a b = inr (holds-both h s t u a b)

-- ---- feeding, on two lent bytes that hold the same

module _ (h : Held) (lent s s' : List ℕ) (a : Holds h lent s) (b : Holds h lent s') where
  same-held : held_at s ≡ held_at s'
  same-held = a.held ∙ sym b.held

  module _ (n : ℕ) (q : List ℕ) where
    same_count : texts_count s n q ≡ texts_count s' n q
    same_count =
        counted s n q a.whole ∙ ap (λ (k : Held). gives (capped (n + refused_in (texts_fed k q).verdicts))) same-held ∙ sym (counted s' n q b.whole)

    fed-from : (x : List ℕ) → Holds h lent x → (r : Result ℕ Refusal) (t : List ℕ) → TextsAs x n q r t → Holds (texts_fed h q).after lent t
    fed-from x c r t f =
        holds_then h (texts_fed h q).after lent x t (batching-opening (texts_at h 0 q) h 0 q) c
        (subst (λ (k : Held). Holds (texts_fed k q).after x t) c.held (f.holds c.whole))

    feeds-both : (r r' : Summing) (t u : List ℕ) → FeedsAs s n q r t → FeedsAs s' n q r' u → (r ≡ r') × Alike t u
    feeds-both r r' t u f g = (
      f.state ∙ ap fed_state (number-one f.answer g.answer (f.fed.answer ∙ same_count ∙ sym g.fed.answer)) ∙ sym g.state,
      alike-holds (texts_fed h q).after lent t u (fed-from s a f.answer t f.fed) (fed-from s' b g.answer u g.fed),
    )

  same-closed : (n : ℕ) → closed_count s n ≡ closed_count s' n
  unfolding closed_count
  same-closed n =
      when_whole s (λ k. gives (capped (refused_after n (closing k 0).answer))) a.whole
      ∙ ap (λ (k : Held). gives (capped (refused_after n (closing k 0).answer))) same-held
      ∙ sym (when_whole s' (λ k. gives (capped (refused_after n (closing k 0).answer))) b.whole)

  closed-from : (n : ℕ) (x : List ℕ) → Holds h lent x → (r : Result ℕ Refusal) (t : List ℕ) → ClosedAs x n r t → Holds (closing h 0).after lent t
  closed-from n x c r t f =
      holds_then h (closing h 0).after lent x t (closing-opening h 0) c (subst (λ (k : Held). Holds (closing k 0).after x t) c.held (f.holds c.whole))

  closes-both : (n : ℕ) (r r' : Result ℕ Refusal) (t u : List ℕ) → ClosedAs s n r t → ClosedAs s' n r' u → (r ≡ r') × Alike t u
  closes-both n r r' t u f g = (
    number-one r r' (f.answer ∙ same-closed n ∙ sym g.answer),
    alike-holds (closing h 0).after lent t u (closed-from n s a r t f) (closed-from n s' b r' u g),
  )

-- ---- opening, and what stands behind the line

-- two answers of an opening, and the bytes that they leave
module _ (s : List ℕ) (P : Result (Unit {0}) Refusal → List ℕ → Type 0) (Q : Result (Unit {0}) Refusal → List ℕ → Type 0) (R : Type 0)
    (refusing : (f : Result (Unit {0}) Refusal) (k : ℕ) → finish_given f ≡ refused k → P f s → Q f s → R)
    (opening : (o : Opening) (x y : List ℕ) → Holds (opened o) s x → Holds (opened o) s y → P (Ok tt) x → Q (Ok tt) y → R) where
  opened-then : (z : Answer Opening) (f g : Result (Unit {0}) Refusal) (x y : List ℕ) → OpenedAs z f s x → OpenedAs z g s y → P f x → Q g y → R
  unfolding OpenedAs finish_given
  opened-then (refused k) f g x y a b p q =
      let e = finish-one f g (a.0 ∙ sym b.0) in
      refusing f k a.0 (subst (P f) a.1 p) (subst (λ (i : Result (Unit {0}) Refusal). Q i s) (sym e) (subst (Q g) b.1 q))
  opened-then (gives o) f g x y a b p q =
      let e : f ≡ (Ok tt) = finish-one f (Ok tt) a.0 in
      let d : g ≡ (Ok tt) = finish-one g (Ok tt) b.0 in
      opening o x y a.1 b.1 (subst (λ (i : Result (Unit {0}) Refusal). P i x) e p) (subst (λ (i : Result (Unit {0}) Refusal). Q i y) d q)

gives-never : (k : ℕ) → finish_given (Ok tt) ≡ refused k → ⊥
unfolding finish_given
gives-never k e = let z : ◌≡◌ {A = ℕ} 0 1 = cc e in omega arith

module _ (k : Kept) (s q : List ℕ) (r r' : Summing) (t u : List ℕ) where
  behind-refused : (f : Result (Unit {0}) Refusal) (j : ℕ) → finish_given f ≡ refused j → BehindAs f s q r t → BehindAs f s q r' u → (r ≡ r') × Alike t u
  unfolding BehindAs Alike
  behind-refused (Ok tt) j e a b = absurd (gives-never j e)
  behind-refused (Err w) j e a b = (a.0 ∙ sym b.0, inl (a.1 ∙ sym b.1))

  behind-opened : (o : Opening) (x y : List ℕ) → Holds (opened o) s x → Holds (opened o) s y → BehindAs (Ok tt) x q r t → BehindAs (Ok tt) y q r' u
      → (r ≡ r') × Alike t u
  unfolding BehindAs
  behind-opened o x y a b c d = feeds-both (opened o) s x y a b 0 q r r' t u c d

  opens-both : OpensAs k s q r t → OpensAs k s q r' u → (r ≡ r') × Alike t u
  opens-both a b =
      opened-then s (λ f x. BehindAs f x q r t) (λ f x. BehindAs f x q r' u) ((r ≡ r') × Alike t u) behind-refused behind-opened
      (kept_opening k (length s)) a.answer b.answer a.store b.store a.opens b.opens a.behind b.behind

module _ (k : Kept) (s : List ℕ) (r r' : Result ℕ Refusal) (t u : List ℕ) where
  ends-refused : (f : Result (Unit {0}) Refusal) (j : ℕ) → finish_given f ≡ refused j → EndsAs f s r t → EndsAs f s r' u → (r ≡ r') × Alike t u
  unfolding EndsAs Alike
  ends-refused (Ok tt) j e a b = absurd (gives-never j e)
  ends-refused (Err w) j e a b = (a.0 ∙ sym b.0, inl (a.1 ∙ sym b.1))

  ends-opened : (o : Opening) (x y : List ℕ) → Holds (opened o) s x → Holds (opened o) s y → EndsAs (Ok tt) x r t → EndsAs (Ok tt) y r' u
      → (r ≡ r') × Alike t u
  unfolding EndsAs
  ends-opened o x y a b c d = closes-both (opened o) s x y a b 0 r r' t u c d

  ends-both : ClosesAs k s r t → ClosesAs k s r' u → (r ≡ r') × Alike t u
  ends-both a b =
      opened-then s (λ f x. EndsAs f x r t) (λ f x. EndsAs f x r' u) ((r ≡ r') × Alike t u) ends-refused ends-opened
      (kept_opening k (length s)) a.answer b.answer a.store b.store a.opens b.opens a.ends b.ends

-- ---- taking a piece

module _ (line : LinePart) (names s p : List ℕ) (q r : Summing) (a b t u : List ℕ) (f : NamesAs line names s p q a t) (g : NamesAs line names s p r b u) where
  taken-same : (f.taken ≡ g.taken) × (a ≡ b)
  taken-same = taken-both (kept_of line names) p f.taken g.taken a b f.kept g.kept

  names-both : (q ≡ r) × (a ≡ b) × Alike t u
  names-both = let z = go f.taken.ended refl in (z.0, taken-same.1, z.1)
    where
      e : f.taken.ended ≡ g.taken.ended
      e = ap (λ (x : Taken). x.ended) taken-same.0

      here : OpensAs (kept_of g.taken.line b) s (drop g.taken.taken p) r u → OpensAs (kept_of f.taken.line a) s (drop f.taken.taken p) r u
      here c = rw (taken-same.0, taken-same.1) c

      go : (x : Bool) → f.taken.ended ≡ x → (q ≡ r) × Alike t u
      go false d =
          let c = f.goes d in
          let k = g.goes (sym e ∙ d) in
          (c.0 ∙ ap (λ (x : Taken). summing.Line x.line) taken-same.0 ∙ sym k.0, alike_same t u (both c.1 k.1))
      go true d = opens-both (kept_of f.taken.line a) s (drop f.taken.taken p) q r t u (f.ends d) (here (g.ends (sym e ∙ d)))

unfoldable pub TookAlike : Summing → List ℕ → List ℕ → List ℕ → List ℕ → Type 0
TookAlike (summing.Line line) s p t u = Alike t u
TookAlike (summing.Texts n) s p t u = SameBut (texts_free s p) t u
TookAlike (summing.Refused w) s p t u = t ≡ u

took-both : (state : Summing) (names s p : List ℕ) (q r : Summing) (a b t u : List ℕ) → TakeSteps state names s p q a t → TakeSteps state names s p r b u
    → (q ≡ r) × (a ≡ b) × TookAlike state s p t u
unfolding TakeSteps TookAlike
took-both (summing.Line line) names s p q r a b t u f g = names-both line names s p q r a b t u f g
took-both (summing.Texts n) names s p q r a b t u f g =
    let x = texts-both s n p f.0.answer g.0.answer t u f.0.fed g.0.fed in
    (f.0.state ∙ ap fed_state x.0 ∙ sym g.0.state, both f.1 g.1, x.1)
took-both (summing.Refused w) names s p q r a b t u f g = (both f.0 g.0, both f.1 g.1, both f.2 g.2)

-- ---- finishing

unfoldable pub FinishedAlike : Summing → List ℕ → List ℕ → List ℕ → Type 0
FinishedAlike (summing.Line line) s t u = Alike t u
FinishedAlike (summing.Texts n) s t u = SameBut (closed_texts_free s) t u
FinishedAlike (summing.Refused w) s t u = t ≡ u

finished-both : (state : Summing) (names s : List ℕ) (q r : Result ℕ Refusal) (t u : List ℕ) → FinishSteps state names s q t → FinishSteps state names s r u
    → (q ≡ r) × FinishedAlike state s t u
unfolding FinishSteps FinishedAlike
finished-both (summing.Line line) names s q r t u f g = ends-both (kept_of line names) s q r t u f g
finished-both (summing.Texts n) names s q r t u f g = closed-texts-both s n q r t u f g
finished-both (summing.Refused w) names s q r t u f g = (both f.0 g.0, both f.1 g.1)

-- ---- the four calls

pub begin-once : AnswerOnce begins.Post
begin-once k x q r y z a b = both a.answer b.answer

pub take-once : Once takes.Post
    (λ x q r y z. (q ≡ r) × ((arg2 y).now ≡ (arg2 z).now) × TookAlike (arg1 x) (arg3 x).now (arg4 x).now (arg3 y).now (arg3 z).now)
take-once k x q r y z a b = took-both (arg1 x) _ _ _ q r _ _ _ _ a.steps b.steps

pub finish-once : Once finishes.Post (λ x q r y z. (q ≡ r) × FinishedAlike (arg1 x) (arg3 x).now (arg3 y).now (arg3 z).now)
finish-once k x q r y z a b = finished-both (arg1 x) _ _ q r _ _ a.steps b.steps

pub summary-lines-once : Once lines.Post (λ x q r y z. (q ≡ r) × ((arg4 y).now ≡ (arg4 z).now))
summary-lines-once k x q r y z a b = (lengths-both q r a.prints.0 b.prints.0, both a.prints.1 b.prints.1)
