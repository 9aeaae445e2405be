-- The laws of sentences. Assumes nothing.
--
--   asked-none, asked-above, asked-some     what is asked for a number that no refusal has, and for one that a refusal has
--   says                       a sentence that is put is that of its number
--   given                      a refusal's sentence that is put is what is asked for
--   reasons-fit                no sentence has more than 64 bytes
use Rattle.std.specs.Prelude.{ℕ, ◌≤◌, ◌<◌, ◌≡◌, ◌⊎◌, refl, true, List, leb, length, Result}
use Rattle.std.proofs.Common.{arith, inl, inr, ap, sym, ◌∙◌}
use borrow.Author.Tests.{lt-ltb, le-ltb, eq-eqb, ne_eqb}
use Rattle.trees.specs.Plain.{bytes, every, refused}
use Rattle.trees.specs.Questions.{if_room}
use Rattle.answers.specs.Filled.{FilledAs}
use Rattle.answers.specs.AnswerLaws.{filled-as}
use Rattle.reasons.specs.Reasons.{reasons, reason_of, reason_asked, SaysAs}
use Rattle.answers.specs.declared.Refusal.{Refusal}

module _ (k room : ℕ) where
  pub asked-none : (k ≡ 0) ⊎ ((k ≡ 0 → ⊥) × (25 < k)) → reason_asked k room ≡ refused 13
  unfolding reason_asked
  asked-none (inl h) = rw (eq-eqb k 0 h)
  asked-none (inr (n, h)) = rw (ne_eqb k 0 n, lt-ltb 25 k h)

  pub asked-above : 25 < k → reason_asked k room ≡ refused 13
  asked-above h = asked-none (inr ((λ e. omega arith), h))

  pub asked-some : 1 ≤ k → k ≤ 25 → reason_asked k room ≡ if_room room (reason_of k)
  unfolding reason_asked
  asked-some h l = rw (ne_eqb k 0 (λ e. omega arith), le-ltb 25 k l)

  -- a sentence that is put is that of its number
  pub says : (old m : List ℕ) (r : Result ℕ Refusal) (j : ℕ) (xs : List ℕ) → k ≡ j → reason_of j ≡ xs → FilledAs (if_room (length old) xs) r old m → SaysAs k r old m
  says old m r j xs e f p = filled-as _ old _ (ap (if_room (length old)) (ap reason_of e ∙ f)) r m p

  -- a sentence that is put is what is asked for, where it is that of the number
  pub given : (old m xs : List ℕ) (r : Result ℕ Refusal) → 1 ≤ k → k ≤ 25 → FilledAs (if_room room xs) r old m → xs ≡ reason_of k → FilledAs (reason_asked k room) r old m
  given old m xs r h l p e = filled-as _ old _ (asked-some h l ∙ ap (if_room room) (sym e)) r m p

pub reasons-fit : every (λ (s : List ℕ). leb (length s) 64) reasons ≡ true
unfolding every reasons bytes
reasons-fit = refl
