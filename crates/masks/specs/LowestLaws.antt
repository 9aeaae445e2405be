-- A mask without its smallest taxon. Assumes nothing.
--
--   lowest-taken                 it is a lesser number
--   without-none, and-before     it is empty where the mask is; else it has what is common with the number before the mask
use Rattle.std.specs.Prelude.{ℕ, zero, suc, ◌+◌, ◌-◌, ◌*◌, ◌/◌, ◌%◌, ◌^◌, ◌<◌, min, ◌≡◌}
use Rattle.std.proofs.Common.{ap, sym, subst, ◌∙◌, ⊎_elim, pow-suc}
use native.Mathlib.Omega.{arith}
use Rattle.std.specs.Int.Bits.{bit_and, and_step, and_self, and_le_l}
use Rattle.std.proofs.lemmas.Nat.{and_comm}
use Rattle.std.specs.Int.Count.{count_trailing_zeros}
use Rattle.trees.specs.Mask.{without, lowest}
use Rattle.theorems.specs.BitLaws.{On, Sub, even_odd, only-on}
use Rattle.theorems.specs.MaskLaws.{others-xor, without_sub}
use Rattle.theorems.specs.WidestLaws.{lowest-on}
use Rattle.masks.specs.MaskLaws.{trailing-lowest}

lowest-sub : (m : ℕ) → 0 < m → Sub (2 ^ lowest m) m
lowest-sub m h i o = subst (λ (k : ℕ). On m k) (only-on (lowest m) i o) (lowest-on m h)

pub lowest-taken : (m : ℕ) → 0 < m → without m (2 ^ lowest m) ≡ m - 2 ^ lowest m
lowest-taken m h = without_sub m (2 ^ lowest m) (lowest-sub m h) ∙ sym (others-xor m (2 ^ lowest m) (lowest-sub m h))

before-even : (m b t : ℕ) → m % 2 ≡ 0 → 0 < m → b + t ≡ m / 2 → b * 2 + min (m % 2) ((m - 1) % 2) + t * 2 ≡ m
before-even m b t e h i = rw e (omega arith)

before-odd : (m : ℕ) → m % 2 ≡ 1 → m / 2 * 2 + min (m % 2) ((m - 1) % 2) + 1 ≡ m
before-odd m e = let z : (m - 1) % 2 ≡ 0 = omega arith in rw (e, z) (omega arith)

-- taxa of m up to its smallest change from m to the number before it
and_below : (k m : ℕ) → 0 < m → m < 2 ^ k → bit_and m (m - 1) + 2 ^ count_trailing_zeros k m ≡ m
unfolding count_trailing_zeros
and_below zero m h p = absurd (omega arith)
and_below (suc k) m h p =
    ⊎_elim
    (λ (e : m % 2 ≡ 0).
    let q : (m - 1) / 2 ≡ m / 2 - 1 = omega arith in
    let l : m / 2 < 2 ^ k = omega (arith, pow-suc 2 k) in
    let i = and_below k (m / 2) (omega arith) l in
    rw (and_step m (m - 1), q, e, pow-suc 2 (count_trailing_zeros k (m / 2))) (rw e at (before-even m _ _ e h i)))
    (λ (e : m % 2 ≡ 1).
    let q : (m - 1) / 2 ≡ m / 2 = omega arith in
    rw (and_step m (m - 1), q, and_self (m / 2), e) (rw e at (before-odd m e)))
    (even_odd m)

module _ (m : ℕ) where
  pub without-none : m ≡ 0 → 0 ≡ without m (2 ^ lowest m)
  unfolding without
  without-none e = let l = and_le_l m (2 ^ lowest m) in omega arith

  pub and-before : (k : ℕ) → m < 2 ^ k → (m ≡ 0 → ⊥) → bit_and (m - 1) m ≡ without m (2 ^ lowest m)
  and-before k p f =
      let h : 0 < m = omega (arith, f) in
      let b = and_below k m h p in
      let q : 2 ^ count_trailing_zeros k m ≡ 2 ^ lowest m = ap (λ (i : ℕ). 2 ^ i) (trailing-lowest k m p h) in
      and_comm (m - 1) m ∙ omega (arith, lowest-taken m h)
