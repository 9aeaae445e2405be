-- The laws of the texts behind the first line. Assumes nothing.
--
--   verdict-refused, verdict-accepted, verdicts-none     the verdicts, one at a time
--   capped_small, capped-large       a sum that 64 bits can count, and one that they cannot
--   capped-more                      a capped number and a further one, capped
--   closed-refused, closed-given     what each return of the closing promises
use Rattle.std.specs.Prelude.{ℕ, suc, ◌+◌, ◌≤◌, ◌<◌, ◌≡◌, ◌⊎◌, true, false, List, ◌∷◌, length, get_or, drop, if◌then◌else◌, Result, Ok, Err}
use Rattle.std.proofs.Math.Numerals.{add-one}
use native.Mathlib.Omega.{arith}
use Rattle.std.proofs.Math.Path.{refl, sym, ap, subst}
use Rattle.std.proofs.Common.{◌∙◌, inl, inr, true≢false, drop_of_length-le, drop-cons}
use borrow.Author.Tests.{lt-ltb, le-ltb}
use Rattle.theorems.specs.ListLaws.{less-or-not}
use Rattle.trees.specs.Plain.{keep, Answer, refused, gives}
use Rattle.trees.specs.Held.{Closed, closing}
use Rattle.trees.specs.Batch.{is_refusal, refused_in, refused_after}
use Rattle.answers.specs.declared.Refusal.TheVariants as why
use Rattle.answers.specs.Answers.{number_given, finish_given}
use Rattle.head.specs.Head.{numbers_at}
use Rattle.layout.specs.Store.{held_at}
use Rattle.layout.specs.WholeStore.{whole_at}
use Rattle.store.specs.HeldWholeLaws.{opening-facts}
use Rattle.head.specs.Head.{opening_at}
use Rattle.store.specs.Lent.{Holds}
use Rattle.store.specs.LentLaws.{not-whole, when_whole}
use Rattle.feeding.specs.Feeding.{reached, closed_of}
use Rattle.feeding.specs.Feeding as feeding
use Rattle.summary.specs.Texts.{capped, closed_count, ClosedAs}
use Rattle.answers.specs.declared.Refusal.{Refusal}

-- ---- one verdict after another

module _ (v : List ℕ) (i : ℕ) where
  rest-cons : i < length v → refused_in (drop i v) ≡ length (if is_refusal (get_or v i 0) then get_or v i 0 ∷ keep is_refusal (drop (i + 1) v) else keep is_refusal (drop (i + 1) v))
  unfolding refused_in keep
  rest-cons h = rw (drop-cons v i 0 h, add-one i)

  rest-is : refused_in (drop (i + 1) v) ≡ length (keep is_refusal (drop (i + 1) v))
  unfolding refused_in keep
  rest-is = refl

  pub verdict-refused : i < length v → get_or v i 0 < 256 → refused_in (drop i v) ≡ suc (refused_in (drop (i + 1) v))
  verdict-refused h e = rest-cons h ∙ rw (lt-ltb (get_or v i 0) 256 e, rest-is) refl

  pub verdict-accepted : i < length v → 256 ≤ get_or v i 0 → refused_in (drop i v) ≡ refused_in (drop (i + 1) v)
  verdict-accepted h e = rest-cons h ∙ rw (le-ltb (get_or v i 0) 256 e, rest-is) refl

  pub verdicts-none : length v ≤ i → refused_in (drop i v) ≡ 0
  unfolding refused_in keep
  verdicts-none h = rw (drop_of_length-le v h)

-- ---- sums

pub capped_small : (n : ℕ) → n < 18446744073709551616 → n ≡ capped n
unfolding capped
capped_small n h = sym (rw (lt-ltb n 18446744073709551616 h))

pub capped-large : (n : ℕ) → 18446744073709551616 ≤ n → 18446744073709551615 ≡ capped n
unfolding capped
capped-large n h = sym (rw (le-ltb n 18446744073709551616 h))

-- a capped number and a further one, capped
pub capped-more : (n m : ℕ) → capped (capped n + m) ≡ capped (n + m)
capped-more n m = go (less-or-not n 18446744073709551616)
  where
    full : 18446744073709551616 ≤ n → (18446744073709551615 + m < 18446744073709551616) ⊎ (18446744073709551616 ≤ 18446744073709551615 + m)
        → capped (18446744073709551615 + m) ≡ capped (n + m)
    full h (inl l) = sym (capped_small (18446744073709551615 + m) l) ∙ omega (arith, capped-large (n + m) (omega arith))
    full h (inr l) = sym (capped-large (18446744073709551615 + m) l) ∙ capped-large (n + m) (omega arith)

    go : (n < 18446744073709551616) ⊎ (18446744073709551616 ≤ n) → capped (capped n + m) ≡ capped (n + m)
    go (inl h) = ap (λ (k : ℕ). capped (k + m)) (sym (capped_small n h))
    go (inr h) = ap (λ (k : ℕ). capped (k + m)) (sym (capped-large n h)) ∙ full h (less-or-not (18446744073709551615 + m) 18446744073709551616)

-- ---- the closing

pub closed-refused : (s : List ℕ) (n : ℕ) → whole_at s ≡ false → ClosedAs s n (Err why.NotWhole) s
unfolding number_given closed_count
closed-refused s n e = record {
  answer = sym (not-whole s (λ h. gives (capped (refused_after n (closing h 0).answer))) e);
  found = λ f. refl;
  holds = λ f. absurd (true≢false (sym f ∙ e));
  outside = λ i h. refl;
}

module _ (s : List ℕ) (w : whole_at s ≡ true) where
  lane-reached : reached s 0 ≡ true
  unfolding reached opening_at
  lane-reached =
      let r = (opening-facts s w).ranges in
      rw (w, lt-ltb 0 (numbers_at s).lanes (omega (arith, r.least-lanes)))

  closed-whole : closed_of s 0 ≡ closing (held_at s) 0
  unfolding closed_of
  closed-whole = rw w

  one_more : (n : ℕ) (a : Answer (Unit {0})) → n + refused_after 0 a ≡ refused_after n a
  unfolding refused_after
  one_more n (refused k) = omega arith
  one_more n (gives x) = omega arith

  pub closed-given : (n : ℕ) (r : Result (Unit {0}) Refusal) (t : List ℕ) → feeding.ClosedAs s 0 r t → (k x : ℕ) → k ≡ refused_after 0 (finish_given r) → x ≡ capped (n + k)
      → ClosedAs s n (Ok x) t
  unfolding number_given closed_count
  closed-given n r t p k x e f = record {
    answer = ap gives (f ∙ ap capped (ap (λ (m : ℕ). n + m) (e ∙ ap (refused_after 0) (p.answer ∙ ap (λ (q : Closed). q.answer) closed-whole)) ∙ one_more n (closing (held_at s) 0).answer)) ∙ sym (when_whole s (λ h. gives (capped (refused_after n (closing h 0).answer))) w);
    found = λ g. absurd (true≢false (sym w ∙ g));
    holds = λ g. subst (λ (q : Closed). Holds q.after s t) closed-whole (p.holds lane-reached);
    outside = p.outside;
  }
