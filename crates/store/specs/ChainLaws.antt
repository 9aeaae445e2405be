-- "Every split is met exactly once along its hash place". Assumes nothing.
--
--   highest-most                the highest row of a place is below as many rows
--   place-below                 a place is below the number of places
--   link-falls                  a link leads to a lower row
--   met_all, met-exactly        the splits met along a place are those that have it
--   met-falls                   their rows fall, so each is met once
use Rattle.std.specs.Prelude.{◌≡◌, ℕ, zero, suc, ◌<◌, ◌≤◌, Bool, true, false, ◌⊎◌, ◌↔◌, List, [], ◌∷◌, ◌==◌, if◌then◌else◌}
use Rattle.std.proofs.Math.Nat.{mod-lt}
use native.Mathlib.Omega.{arith}
use Rattle.std.proofs.Math.Path.{refl, ap}
use Rattle.std.proofs.Common.{sym, ◌∙◌, subst, eqb-true}
use Rattle.std.proofs.Math.Logic.{inl, inr}
use Rattle.std.proofs.lemmas.Bool.{eqb-false}
use Rattle.trees.specs.Hash.{place}
use Rattle.theorems.specs.ListLaws.{by-test, Mem, less-or-not}
use Rattle.head.specs.Head.{numbers_at, opening_at}
use Rattle.layout.specs.Store.{splits_held_at, mask_at, link_at}
use Rattle.layout.specs.WholeStore.{place_in, highest_below, whole_at, highest_in}
use Rattle.layout.specs.WholeFacts.{ChainsAt, whole-at-facts}
use Rattle.store.specs.HeldWholeLaws.{opening-facts}
use Rattle.store.specs.Chain.{met_from, met, of_place, Falling}

-- ---- the highest split of a place

module _ (s : List ℕ) (p : ℕ) where
  pub highest-most : (n : ℕ) → highest_below s p n ≤ n
  unfolding highest_in
  highest-most zero = omega arith
  highest-most (suc n) = let h = highest-most n in by-test (λ (x : ℕ). x ≤ suc n) (place_in s (mask_at s n) == p) (λ e. omega arith) (λ e. omega arith)

-- ---- the splits of a place, the highest first

module _ (s : List ℕ) (p : ℕ) where
  of_place-mem : (n k : ℕ) → Mem k (of_place s p n) → (k < n) × (place_in s (mask_at s k) ≡ p)
  unfolding of_place
  of_place-mem zero k h = elim h [ ]
  of_place-mem (suc n) k h = go (place_in s (mask_at s n) == p) refl h (of_place-mem n k)
    where
      go : (b : Bool) → (place_in s (mask_at s n) == p) ≡ b → Mem k (if b then n ∷ of_place s p n else of_place s p n)
          → (Mem k (of_place s p n) → (k < n) × (place_in s (mask_at s k) ≡ p)) → (k < suc n) × (place_in s (mask_at s k) ≡ p)
      go true e (inl q) f = (omega arith, rw q (eqb-true _ _ e))
      go true e (inr q) f = let r = f q in (omega (arith, r.0), r.1)
      go false e q f = let r = f q in (omega (arith, r.0), r.1)

  mem-of_place : (n k : ℕ) → k < n → place_in s (mask_at s k) ≡ p → Mem k (of_place s p n)
  unfolding of_place
  mem-of_place zero k h e = absurd (omega arith)
  mem-of_place (suc n) k h e = go (place_in s (mask_at s n) == p) refl (less-or-not k n) (λ l. mem-of_place n k l e)
    where
      go : (b : Bool) → (place_in s (mask_at s n) == p) ≡ b → (k < n) ⊎ (n ≤ k) → (k < n → Mem k (of_place s p n)) → Mem k (if b then n ∷ of_place s p n else of_place s p n)
      go true q (inl l) f = inr (f l)
      go true q (inr l) f = inl (omega arith)
      go false q (inl l) f = f l
      go false q (inr l) f = let d : n ≡ k = omega arith in absurd (eqb-false _ _ q (ap (λ (j : ℕ). place_in s (mask_at s j)) d ∙ e))

  of_place-falls : (n : ℕ) → Falling (of_place s p n)
  unfolding of_place
  of_place-falls zero = tt
  of_place-falls (suc n) = by-test Falling (place_in s (mask_at s n) == p) (λ e. ((λ y h. (of_place-mem n y h).0), of_place-falls n)) (λ e. of_place-falls n)

-- ---- the walk along a place

met-ends : (s : List ℕ) (f : ℕ) → met_from s f 0 ≡ []
unfolding met_from
met-ends s zero = refl
met-ends s (suc f) = refl

module _ (s : List ℕ) (c : ChainsAt s) where
  next-entry : (p k : ℕ) → k < splits_held_at s → place_in s (mask_at s k) ≡ p → link_at s k ≡ highest_below s p k
  next-entry p k h e = c.links k h ∙ ap (λ (q : ℕ). highest_below s q k) e

  met-place : (p n : ℕ) → n ≤ splits_held_at s → (f : ℕ) → highest_below s p n ≤ f → met_from s f (highest_below s p n) ≡ of_place s p n
  unfolding highest_in of_place
  met-place p zero h f l = met-ends s f
  met-place p (suc n) h f l = go (place_in s (mask_at s n) == p) refl f l (met-place p n (omega arith))
    where
      go : (b : Bool) → (place_in s (mask_at s n) == p) ≡ b → (f : ℕ) → (if b then suc n else highest_below s p n) ≤ f
          → ((f : ℕ) → highest_below s p n ≤ f → met_from s f (highest_below s p n) ≡ of_place s p n)
          → met_from s f (if b then suc n else highest_below s p n) ≡ (if b then n ∷ of_place s p n else of_place s p n)
      go true e zero l g = absurd (omega arith)
      go true e (suc f) l g =
          unfold met_from in
          ap (λ (t : List ℕ). n ∷ t) (rw (next-entry p n h (eqb-true _ _ e)) (g f (omega (arith, highest-most s p n))))
      go false e f l g = g f l

-- ---- what is met in a whole store

module _ (s : List ℕ) (whole : whole_at s ≡ true) where
  chains : ChainsAt s
  chains = (whole-at-facts s whole).chains

  pub place-below : (m : ℕ) → place_in s m < (numbers_at s).places
  unfolding place opening_at
  place-below m = mod-lt _ (opening-facts s whole).ranges.least-places

  pub link-falls : (k : ℕ) → k < splits_held_at s → link_at s k ≤ k
  link-falls k h = rw (chains.links k h) (highest-most s _ k)

  pub met_all : (p : ℕ) → p < (numbers_at s).places → met s p ≡ of_place s p (splits_held_at s)
  unfolding met
  met_all p h = rw (chains.starts p h) (met-place s chains p (splits_held_at s) (omega arith) (highest_below s p (splits_held_at s)) (omega arith))

  pub met-exactly : (p k : ℕ) → p < (numbers_at s).places → Mem k (met s p) ↔ ((k < splits_held_at s) × (place_in s (mask_at s k) ≡ p))
  met-exactly p k h =
      (λ q. of_place-mem s p (splits_held_at s) k (subst (Mem k) (met_all p h) q), λ q. subst (Mem k) (sym (met_all p h)) (mem-of_place s p (splits_held_at s) k q.0 q.1))

  pub met-falls : (p : ℕ) → p < (numbers_at s).places → Falling (met s p)
  met-falls p h = rw (met_all p h) (of_place-falls s p (splits_held_at s))
