-- Laws of the two searches of the tree made of splits: the smallest taxon of a mask, and the widest split that has a taxon.
--
--   lowest-on      the smallest taxon of a mask that is not empty is in the mask
--   Fit m i x      x may be chosen: it is below m and has the taxon i
--   widest-from    what is chosen is a split that may be chosen, or nothing is
--   widest-top     no split that may be chosen is greater
use Rattle.std.specs.Prelude.{ℕ, zero, suc, ◌+◌, ◌/◌, ◌%◌, ◌≤◌, ◌<◌, ◌≡◌, refl, ◌⊎◌, Bool, true, false, ◌&&◌, List, [], ◌∷◌, ltb, eqb}
use Rattle.std.proofs.Common.{arith, ap, sym, ◌∙◌, subst, true≢false}
use Rattle.std.proofs.Math.Nat.{le_refl}
use Rattle.std.proofs.Math.Logic.{inl, inr}
use borrow.Author.Tests.{ltb-true, ltb-false, lt-ltb, eqb-true, eqb-false}
use Rattle.trees.specs.Mask.{has, lowest_from, lowest}
use Rattle.trees.specs.Written.{wider, widest_or, widest}
use Rattle.theorems.specs.ListLaws.{by-test, and_left, and_right, and-true, Mem}
use Rattle.theorems.specs.BitLaws.{On, on-first, shift-on}
use Rattle.theorems.specs.MaskLaws.{has_on, on-has}

-- ---- the smallest taxon

abbrev lowest_by : Bool → ℕ → ℕ → ℕ → ℕ
lowest_by true f i m = i
lowest_by false f i m = lowest_from f (suc i) (m / 2)

lowest_step : (f i m : ℕ) → lowest_from (suc f) i m ≡ lowest_by (eqb (m % 2) 1) f i m
unfolding lowest_from
lowest_step f i m =
    elim (eqb (m % 2) 1) as (λ b. elim b as (λ _. ℕ) [ true ↦ i | false ↦ lowest_from f (suc i) (m / 2) ] ≡ lowest_by b f i m) [ true ↦ refl | false ↦ refl ]

half_pos : (n : ℕ) → 0 < n → (n % 2 ≡ 1 → ⊥) → 0 < n / 2
half_pos n a b = omega (arith, b)

lowest-from : (f i m : ℕ) → 0 < m → m ≤ f → (j : ℕ) × (lowest_from f i m ≡ i + j) × On m j
lowest-from zero i m h k = absurd (omega arith)
lowest-from (suc f) i m h k = go (eqb (m % 2) 1) refl (lowest-from f (suc i) (m / 2))
  where
    go : (b : Bool) → eqb (m % 2) 1 ≡ b → (0 < m / 2 → m / 2 ≤ f → (j : ℕ) × (lowest_from f (suc i) (m / 2) ≡ suc i + j) × On (m / 2) j) → (j : ℕ) × (lowest_from (suc f) i m ≡ i + j) × On m j
    go true e ih = (0, lowest_step f i m ∙ ap (λ b. lowest_by b f i m) e ∙ omega arith, on-first m (eqb-true (m % 2) 1 e))
    go false e ih =
        let r = ih (half_pos m h (eqb-false (m % 2) 1 e)) (omega arith) in
        (suc r.0, lowest_step f i m ∙ ap (λ b. lowest_by b f i m) e ∙ r.1 ∙ omega arith, shift-on m r.0 r.2)

pub lowest-on : (m : ℕ) → 0 < m → On m (lowest m)
unfolding lowest
lowest-on m h = let r = lowest-from m 0 m h (le_refl m) in subst (On m) (sym (r.1 ∙ omega arith)) r.2

-- ---- the widest split

abbrev pub Fit : ℕ → ℕ → ℕ → Type 0
Fit m i x = (x < m) × On x i

and-false-left : (a b : Bool) → (a && b) ≡ false → b ≡ true → a ≡ false
and-false-left true b e h = absurd (true≢false (sym h ∙ e))
and-false-left false b e h = refl

module _ (m i best x : ℕ) where
  -- the test that x is held to
  test : Bool
  test = ltb best x && (ltb x m && has x i)

  fit-true : test ≡ true → Fit m i x
  unfolding test
  fit-true e =
      let p = and_right (ltb best x) (ltb x m && has x i) e in
      (ltb-true x m (and_left (ltb x m) (has x i) p), has_on x i (and_right (ltb x m) (has x i) p))

  wider-ge : best ≤ wider m i x best
  unfolding wider test
  wider-ge = by-test (λ (z : ℕ). best ≤ z) test (λ e. let h = ltb-true best x (and_left (ltb best x) (ltb x m && has x i) e) in omega arith) (λ e. le_refl best)

  wider-from : (wider m i x best ≡ best) ⊎ ((wider m i x best ≡ x) × Fit m i x)
  unfolding wider test
  wider-from = by-test (λ (z : ℕ). (z ≡ best) ⊎ ((z ≡ x) × Fit m i x)) test (λ e. inr (refl, fit-true e)) (λ e. inl refl)

  wider_top : Fit m i x → x ≤ wider m i x best
  unfolding wider test
  wider_top h =
      by-test (λ (z : ℕ). x ≤ z) test (λ e. le_refl x)
      (λ e. ltb-false best x (and-false-left (ltb best x) (ltb x m && has x i) e (and-true (lt-ltb x m h.0) (on-has x i h.1))))

widest_or-ge : (m i : ℕ) (s : List ℕ) (best : ℕ) → best ≤ widest_or best m i s
unfolding widest_or
widest_or-ge m i [] best = le_refl best
widest_or-ge m i (x ∷ s) best = omega (arith, wider-ge m i best x, widest_or-ge m i s (wider m i x best))

widest_or-from : (m i : ℕ) (s : List ℕ) (best : ℕ) → (widest_or best m i s ≡ best) ⊎ (Mem (widest_or best m i s) s × Fit m i (widest_or best m i s))
unfolding widest_or
widest_or-from m i [] best = inl refl
widest_or-from m i (x ∷ s) best = go (widest_or (wider m i x best) m i s) (widest_or-from m i s (wider m i x best)) (wider-from m i best x)
  where
    go : (w : ℕ) → (w ≡ wider m i x best) ⊎ (Mem w s × Fit m i w) → (wider m i x best ≡ best) ⊎ ((wider m i x best ≡ x) × Fit m i x) → (w ≡ best) ⊎ (Mem w (x ∷ s) × Fit m i w)
    go w (inl p) (inl q) = inl (p ∙ q)
    go w (inl p) (inr q) = inr (inl (p ∙ q.0), subst (Fit m i) (sym (p ∙ q.0)) q.1)
    go w (inr p) q = inr (inr p.0, p.1)

widest_or-top : (m i : ℕ) (s : List ℕ) (best y : ℕ) → Mem y s → Fit m i y → y ≤ widest_or best m i s
unfolding widest_or
widest_or-top m i [] best y x'' h = elim x'' [ ]
widest_or-top m i (x ∷ s) best y (inl e) h =
    let p = wider_top m i best x (subst (Fit m i) e h) in
    omega (arith, p, widest_or-ge m i s (wider m i x best))
widest_or-top m i (x ∷ s) best y (inr k) h = widest_or-top m i s (wider m i x best) y k h

pub widest-from : (m i : ℕ) (s : List ℕ) → (widest m i s ≡ 0) ⊎ (Mem (widest m i s) s × Fit m i (widest m i s))
unfolding widest
widest-from m i s = widest_or-from m i s 0

pub widest-top : (m i : ℕ) (s : List ℕ) (y : ℕ) → Mem y s → Fit m i y → y ≤ widest m i s
unfolding widest
widest-top m i s y h k = widest_or-top m i s 0 y h k
