-- Laws of doubles that are finite and not minus zero, and of their 64 bits.
--
--   proper-number, proper-pattern   such a double is no NaN, and its bits are no NaN's
--   bits_back      the bits of the double that some bits make are these bits
--   no_ones        all ones are not its bits
--   proper-bits    which bits make such a double: two comparisons
use Rattle.std.specs.Prelude.{◌≡◌, Bool, true, not, ◌&&◌, cond, T, leb, ltb, eqb, Float}
use Rattle.std.proofs.Math.Path.{refl, sym}
use Rattle.std.proofs.Common.{ap, ◌∙◌, zero-lt-suc, zero-mul, mul-pos, arith, pow_pos}
use Prim.Native.Nat.{ℕ, zero, suc, ◌+◌, ◌*◌, ◌/◌, ◌%◌, ◌^◌, ◌≤◌, ◌<◌}
use Rattle.std.proofs.Math.Bool.{false}
use Rattle.std.proofs.lemmas.Bool.{false≢true}
use borrow.Author.Tests.{lt-ltb, le-ltb, leb-true, leb-false, eqb-true, eqb-false, eq-eqb, ne_eqb}
use Rattle.std.specs.Float.{nan, inf, fin, binary64}
use Rattle.std.specs.Float.Ieee.{up, down, odd, fits, is_nan, of_fields, of_bits, nan_bits, to_bits}
use Rattle.std.specs.Float.Ieee.Digits.{Equals, odd_val}
use Rattle.std.specs.Float.Ieee.Fits.{down_pos}
use Rattle.std.specs.Float.Ieee.Bits.{of_bits-to_bits, to_bits-of_bits, nan_bits_is}
use Rattle.trees.specs.Value.{proper}

pub proper-number : (x : Float) → proper x ≡ true → T (not (is_nan x))
unfolding proper is_nan
proper-number nan h = absurd (false≢true h)
proper-number (inf s) h = tt
proper-number (fin s m e) h = tt

-- so its bits are no NaN's
pub proper-pattern : (n : ℕ) → proper (of_bits binary64 n) ≡ true → T (not (nan_bits binary64 n))
proper-pattern n h = rw (nan_bits_is binary64 n) (proper-number (of_bits binary64 n) h)

-- the bits are the double's: what is read and put again leaves the bytes as they are
pub bits_back : (n : ℕ) → n < 2 ^ 64 → proper (of_bits binary64 n) ≡ true → to_bits binary64 (of_bits binary64 n) ≡ n
bits_back n h p = to_bits-of_bits binary64 n h (proper-number (of_bits binary64 n) p)

-- all ones are no double's bits, so they may stand for none
pub no_ones : (x : Float) → T (fits binary64 x) → proper x ≡ true → to_bits binary64 x ≡ 0xffff_ffff_ffff_ffff → ⊥
no_ones x f p e = false≢true (sym ones-improper ∙ ap proper (sym (ap (of_bits binary64) e) ∙ of_bits-to_bits binary64 x f) ∙ p)
  where
    ones-improper : proper (of_bits binary64 0xffff_ffff_ffff_ffff) ≡ false
    ones-improper = unfold proper of_bits in refl

-- ---- which bits make one

-- what `odd` writes is 0 only for 0
no_zero : (m : ℕ) (u l r d : ℕ) → 0 < r → 0 < d → m * u * l ≡ r * d → m ≡ 0 → ⊥
no_zero m u l r d R D h z =
    let p : 0 < r * d = mul-pos R D in
    let q : m * u * l ≡ 0 = ap (λ (x : ℕ). x * u * l) z ∙ ap (λ (x : ℕ). x * l) (zero-mul u) ∙ zero-mul l in
    omega arith

odd-zero : (s : Bool) (x : Float) (q k l : ℕ) → Equals x (suc q * 2 ^ k) (2 ^ l) → proper x ≡ true
unfolding proper
odd-zero s nan q k l h = absurd h
odd-zero s (inf t) q k l h = absurd h
odd-zero s (fin false m e) q k l h = refl
odd-zero s (fin true m e) q k l h = ap not (ne_eqb m 0 (no_zero m (up e) (2 ^ l) (suc q * 2 ^ k) (down e) (mul-pos (zero-lt-suc q) (pow_pos k)) (down_pos e) h))

pub odd-proper : (d : ℕ) (s : Bool) (q k l : ℕ) → proper (odd d s q k l) ≡ not (s && eqb q 0)
unfolding proper odd
odd-proper d s zero k l = refl
odd-proper d s (suc q) k l = odd-zero s (odd d s (suc q) k l) q k l (odd_val d s (suc q) k l) ∙ above s
  where
    above : (s : Bool) → true ≡ not (s && eqb (suc q) 0)
    above true = ap not (sym (ne_eqb (suc q) 0 (λ e. omega arith)))
    above false = refl

abbrev proper_bits : ℕ → Bool
proper_bits n = cond (eqb n (2 ^ 63)) false (ltb (n % 2 ^ 63) 0x7ff0_0000_0000_0000)

cond_same : (b : Bool) (x y : Float) → proper x ≡ false → proper y ≡ false → proper (cond b x y) ≡ false
cond_same true x y h k = h
cond_same false x y h k = k

fields-proper : (n x t : ℕ) (s : Bool) → n < 2 ^ 64 → leb (2 ^ 63) n ≡ s → n % 2 ^ 63 / 2 ^ 52 ≡ x → n % 2 ^ 52 ≡ t
    → proper (of_fields binary64 s x t) ≡ proper_bits n
unfolding of_fields
fields-proper n zero t false h p q r =
    let l : n < 2 ^ 63 = leb-false (2 ^ 63) n p in
    odd-proper 53 false t 0 1074 ∙ sym (rw (ne_eqb n (2 ^ 63) (λ e. omega arith)) (lt-ltb (n % 2 ^ 63) 0x7ff0_0000_0000_0000 (omega arith)))
fields-proper n zero zero true h p q r =
    let l : 2 ^ 63 ≤ n = leb-true (2 ^ 63) n p in
    odd-proper 53 true zero 0 1074 ∙ sym (rw (eq-eqb n (2 ^ 63) (omega arith)))
fields-proper n zero (suc t) true h p q r =
    let l : 2 ^ 63 ≤ n = leb-true (2 ^ 63) n p in
    odd-proper 53 true (suc t) 0 1074 ∙ ap not (ne_eqb (suc t) 0 (λ e. omega arith))
    ∙ sym (rw (ne_eqb n (2 ^ 63) (λ e. omega arith)) (lt-ltb (n % 2 ^ 63) 0x7ff0_0000_0000_0000 (omega arith)))
fields-proper n (suc x) t s h p q r = go (eqb (suc x) 2047) refl
  where
    tail : (s : Bool) → not (s && eqb (2 ^ 52 + t) 0) ≡ true
    tail true = ap not (ne_eqb (2 ^ 52 + t) 0 (λ e. omega arith))
    tail false = refl

    go : (b : Bool) → eqb (suc x) 2047 ≡ b → proper (cond b (cond (eqb t 0) (inf s) nan) (odd 53 s (2 ^ 52 + t) x 1074)) ≡ proper_bits n
    go true e =
        let f : suc x ≡ 2047 = eqb-true (suc x) 2047 e in
        cond_same (eqb t 0) (inf s) nan (unfold proper in refl) (unfold proper in refl)
        ∙ sym (rw (ne_eqb n (2 ^ 63) (λ e. omega arith)) (le-ltb (n % 2 ^ 63) 0x7ff0_0000_0000_0000 (omega arith)))
    go false e =
        let f : suc x ≡ 2047 → ⊥ = eqb-false (suc x) 2047 e in
        odd-proper 53 s (2 ^ 52 + t) x 1074 ∙ tail s
        ∙ sym (rw (ne_eqb n (2 ^ 63) (λ e. omega arith)) (lt-ltb (n % 2 ^ 63) 0x7ff0_0000_0000_0000 (omega arith)))

pub proper-bits : (n : ℕ) → n < 2 ^ 64 → proper (of_bits binary64 n) ≡ cond (eqb n (2 ^ 63)) false (ltb (n % 2 ^ 63) 0x7ff0_0000_0000_0000)
unfolding of_bits
proper-bits n h = fields-proper n (n % 2 ^ 63 / 2 ^ 52) (n % 2 ^ 52) (leb (2 ^ 63) n) h refl refl refl
