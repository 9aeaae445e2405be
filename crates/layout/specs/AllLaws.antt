-- Laws of `all_below`, the test of every number below a bound. Assumes nothing.
--
--   all_none, all_more     how a loop makes it: no number yet, one number more
--   all-fails              one number that fails
--   all-at, all-intro      the test and each number's
use Rattle.std.specs.Prelude.{ℕ, zero, suc, ◌+◌, ◌<◌, ◌≡◌, refl, ◌⊎◌, Bool, true, false, ◌&&◌}
use Rattle.std.proofs.Common.{eq-or-lt_of_le, le_of_suc-le-suc, add-one, arith, inl, inr, ⊎_elim}
use Rattle.theorems.specs.ListLaws.{and_left, and_right, and-true}
use Rattle.layout.specs.WholeStore.{all_below}

below_suc : (i n : ℕ) → i < suc n → (i < n) ⊎ (i ≡ n)
below_suc i n h = ⊎_elim (λ e. inr e) (λ l. inl l) (eq-or-lt_of_le (le_of_suc-le-suc h))

and-false-right : (a b : Bool) → b ≡ false → (a && b) ≡ false
and-false-right true b e = e
and-false-right false b e = refl

pub all_none : (p : ℕ → Bool) → all_below p 0 ≡ true
unfolding all_below
all_none p = refl

pub all_more : (p : ℕ → Bool) (i : ℕ) → all_below p i ≡ true → p i ≡ true → all_below p (i + 1) ≡ true
unfolding all_below
all_more p i h e = rw add-one (and-true h e)

pub all-fails : (p : ℕ → Bool) (n i : ℕ) → i < n → p i ≡ false → all_below p n ≡ false
unfolding all_below
all-fails p zero i l e = absurd (omega arith)
all-fails p (suc n) i l e =
    ⊎_elim (λ (q : i < n). rw (all-fails p n i q e)) (λ (d : i ≡ n). and-false-right (all_below p n) (p n) (rw d at e)) (below_suc i n l)

pub all-at : (p : ℕ → Bool) (n : ℕ) → all_below p n ≡ true → (i : ℕ) → i < n → p i ≡ true
unfolding all_below
all-at p zero h i l = absurd (omega arith)
all-at p (suc n) h i l =
    ⊎_elim (λ (q : i < n). all-at p n (and_left _ _ h) i q) (λ (e : i ≡ n). rw e (and_right (all_below p n) _ h)) (below_suc i n l)

pub all-intro : (p : ℕ → Bool) (n : ℕ) → ((i : ℕ) → i < n → p i ≡ true) → all_below p n ≡ true
unfolding all_below
all-intro p zero h = refl
all-intro p (suc n) h = and-true (all-intro p n (λ i l. h i (omega arith))) (h n (omega arith))
