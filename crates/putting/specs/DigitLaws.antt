-- The digits that the library writes are those of the definition. Assumes nothing.
--
--   digits_of_lem      the fewest digits of n are `digits_of n`
--   digits-few     a number below 2 ^ 64 has at most 20 digits
--   digits-fewer   one below 65,536 has at most 5
use Rattle.std.specs.Prelude.{ℕ, zero, suc, ◌+◌, ◌-◌, ◌/◌, ◌%◌, ◌^◌, ◌≤◌, ◌<◌, ◌≡◌, refl, ◌⊎◌, Bool, true, false, List, [], ◌∷◌, ◌++◌, ltb}
use Rattle.std.proofs.Common.{pow-suc, mod-eq_of_lt, arith, inl, inr, lt-ltb, le-ltb}
use Rattle.std.proofs.Math.Nat.{pow-le-pow_right}
use Rattle.theorems.specs.ListLaws.{less-or-not}
use Rattle.io.specs.Digits.{hex_digit_ascii, last_digits, IsDigitCount}
use Rattle.trees.specs.Decimal.{digits_from, digits_of}

abbrev digits_by : Bool → ℕ → ℕ → List ℕ
digits_by true f n = (48 + n) ∷ []
digits_by false f n = digits_from f (n / 10) ++ (48 + n % 10) ∷ []

digits_step : (f n : ℕ) → digits_from (suc f) n ≡ digits_by (ltb n 10) f n
unfolding digits_from
digits_step f n =
    elim (ltb n 10) as (λ b. elim b as (λ _. List ℕ) [ true ↦ (48 + n) ∷ [] | false ↦ digits_from f (n / 10) ++ (48 + n % 10) ∷ [] ] ≡ digits_by b f n) [ true ↦ refl | false ↦ refl ]

glyph-is : (d : ℕ) → d < 10 → hex_digit_ascii d ≡ 48 + d
glyph-is d h = rw (lt-ltb d 10 h)

-- the digits before the last are those of a tenth
more-digits : (k n : ℕ) → IsDigitCount 10 1 n (suc (suc k)) → 10 ^ suc k ≤ n
more-digits k n w = let e : suc (suc k) - 1 ≡ suc k = omega arith in rw e at (w.2 (omega arith))

fewer : (k n : ℕ) → IsDigitCount 10 1 n (suc (suc k)) → IsDigitCount 10 1 (n / 10) (suc k)
fewer k n w = (omega arith, omega (arith, w.1, pow-suc 10 (suc k)), λ h. least h)
  where
    least : 1 < suc k → 10 ^ (suc k - 1) ≤ n / 10
    least h =
        let e : suc k - 1 ≡ k = omega arith in
        rw e (omega (arith, more-digits k n w, pow-suc 10 k))

digits_from_lem : (k f n : ℕ) → n < f → IsDigitCount 10 1 n k → last_digits 10 k n ≡ digits_from f n
digits_from_lem zero f n l w = absurd (omega (arith, w.0))
digits_from_lem (suc k) zero n l w = absurd (omega arith)
digits_from_lem (suc zero) (suc f) n l w =
    let b : n < 10 = omega (arith, w.1) in
    rw (digits_step f n, lt-ltb n 10 b, mod-eq_of_lt b, glyph-is n b)
digits_from_lem (suc (suc k)) (suc f) n l w =
    let a : 10 ≤ n = omega (arith, more-digits k n w, pow-suc 10 k, one-most k) in
    rw (digits_step f n, le-ltb n 10 a, glyph-is (n % 10) (omega arith), ← digits_from_lem (suc k) f (n / 10) (omega arith) (fewer k n w))
  where
    one-most : (k : ℕ) → 1 ≤ 10 ^ k
    one-most k = pow-le-pow_right {n = 10} (omega arith) {i = 0} {j = k} (omega arith)

pub digits_of_lem : (k n : ℕ) → IsDigitCount 10 1 n k → last_digits 10 k n ≡ digits_of n
unfolding digits_of
digits_of_lem k n w = digits_from_lem k (suc n) n (omega arith) w

-- a number that has more than m digits is no smaller than 10 ^ m
digits-most : (m k n : ℕ) → 1 ≤ m → n < 10 ^ m → IsDigitCount 10 1 n k → k ≤ m
digits-most m k n l h w = go (less-or-not m k)
  where
    go : (m < k) ⊎ (k ≤ m) → k ≤ m
    go (inr a) = a
    go (inl a) = absurd (omega (arith, w.2 (omega arith), pow-le-pow_right {n = 10} (omega arith) {i = m} {j = k - 1} (omega arith)))

pub digits-few : (k n : ℕ) → IsDigitCount 10 1 n k → n < 2 ^ 64 → k ≤ 20
digits-few k n w h = digits-most 20 k n (omega arith) (omega arith) w

pub digits-fewer : (k n : ℕ) → IsDigitCount 10 1 n k → n < 65536 → k ≤ 5
digits-fewer k n w h = digits-most 5 k n (omega arith) (omega arith) w
