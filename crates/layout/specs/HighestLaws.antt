-- The highest row of a place below n, and one more: `highest_in`. Assumes nothing.
--
--   highest-same       it depends on the masks of those rows alone
--   highest-here, highest-lower     one row more
--   highest-most       it is at most n
--   highest-place      its row has the place
--   highest-above      the rows from it on are of other places
use Prim.Native.Nat.{ℕ, zero, suc, ◌≤◌, ◌<◌}
use native.Mathlib.Omega.{arith}
use Rattle.std.specs.Prelude.{◌≡◌, ◌⊎◌, Bool, if◌then◌else◌}
use Rattle.std.proofs.Math.Path.{refl}
use Rattle.std.proofs.Common.{ap, ap₂, ◌∙◌, inl, inr}
use Rattle.std.proofs.Math.Bool.{true, false}
use Rattle.std.proofs.Math.Dec.{eqb}
use borrow.Author.Tests.{eqb-true, eqb-false, eq-eqb, ne_eqb}
use Rattle.theorems.specs.ListLaws.{less-or-not, by-test, if-true, if-false}
use Rattle.layout.specs.Store.{Parts, mask_in}
use Rattle.layout.specs.WholeStore.{highest_in}

pub highest-same : (h : ℕ → ℕ) (p p' : Parts) (q n : ℕ) → ((k : ℕ) → k < n → mask_in p' k ≡ mask_in p k) → highest_in h p' q n ≡ highest_in h p q n
unfolding highest_in
highest-same h p p' q zero e = refl
highest-same h p p' q (suc n) e =
    ap₂ (λ (m x : ℕ). if eqb (h m) q then suc n else x) (e n (omega arith)) (highest-same h p p' q n (λ k l. e k (omega arith)))

module _ (h : ℕ → ℕ) (p : Parts) (q : ℕ) where
  pub highest-here : (n : ℕ) → h (mask_in p n) ≡ q → highest_in h p q (suc n) ≡ suc n
  unfolding highest_in
  highest-here n e = if-true _ _ (eq-eqb _ _ e)

  pub highest-lower : (n : ℕ) → (h (mask_in p n) ≡ q → ⊥) → highest_in h p q (suc n) ≡ highest_in h p q n
  unfolding highest_in
  highest-lower n e = if-false _ _ (ne_eqb _ _ e)

  pub highest-most : (n : ℕ) → highest_in h p q n ≤ n
  unfolding highest_in
  highest-most zero = omega arith
  highest-most (suc n) = let l = highest-most n in by-test (λ (x : ℕ). x ≤ suc n) (eqb (h (mask_in p n)) q) (λ e. omega arith) (λ e. omega arith)

  pub highest-place : (n k : ℕ) → highest_in h p q n ≡ suc k → h (mask_in p k) ≡ q
  unfolding highest_in
  highest-place zero k e = absurd (omega arith)
  highest-place (suc n) k e = go (eqb (h (mask_in p n)) q) refl e (highest-place n k)
    where
      go : (b : Bool) → eqb (h (mask_in p n)) q ≡ b → (if b then suc n else highest_in h p q n) ≡ suc k → (highest_in h p q n ≡ suc k → h (mask_in p k) ≡ q) → h (mask_in p k) ≡ q
      go true z d f = let i : k ≡ n = omega arith in rw i (eqb-true _ _ z)
      go false z d f = f d

  pub highest-above : (n k : ℕ) → highest_in h p q n ≤ k → k < n → h (mask_in p k) ≡ q → ⊥
  unfolding highest_in
  highest-above zero k a l e = omega arith
  highest-above (suc n) k a l e = go (eqb (h (mask_in p n)) q) refl a (less-or-not k n) (λ b c. highest-above n k b c e)
    where
      go : (b : Bool) → eqb (h (mask_in p n)) q ≡ b → (if b then suc n else highest_in h p q n) ≤ k → (k < n) ⊎ (n ≤ k) → (highest_in h p q n ≤ k → k < n → ⊥) → ⊥
      go true z d c f = omega arith
      go false z d (inl c) f = f d c
      go false z d (inr c) f = let i : n ≡ k = omega arith in eqb-false _ _ z (ap (λ (x : ℕ). h (mask_in p x)) i ∙ e)
