-- Laws of the number of taxa in a mask: `ones`, the library's count of set bits.
--
--   below-ones                               the count over n taxa is the library's, for a mask of n taxa
--   ones-zero, ones_bit, ones-in             of no taxa, of one taxon, and of the lowest bits alone
--   ones-part, ones_lt                       the taxa of a part and those of the rest; a smaller part has fewer
--   ones_pos, pos-of-ones                    a mask that is not empty has a taxon
use Rattle.std.specs.Prelude.{ℕ, zero, suc, ◌+◌, ◌/◌, ◌%◌, ◌^◌, ◌<◌, ◌≡◌, refl, ◌⊎◌, if◌then◌else◌}
use Rattle.std.proofs.Common.{arith, pow-suc, ap, ap₂, sym, ◌∙◌, inl, inr, eq-eqb, ne_eqb}
use Rattle.std.proofs.Math.Arith.{bin_ind}
use Rattle.std.specs.Int.Bits.{bit_xor, xor_zero_r, differ}
use Rattle.std.proofs.lemmas.Nat.{xor_shr}
use Rattle.std.specs.Int.Count.{ones, ones_in, ones_step}
use Rattle.trees.specs.Mask.{has, ones_below}
use Rattle.theorems.specs.ListLaws.{if-true, if-false}
use Rattle.theorems.specs.BitLaws.{Sub, even_odd, xor-odd, pow-half, on-first, first_on, on-shift, shift-on, shift, less-add}

pub ones-zero : ones 0 ≡ 0
unfolding ones ones_in
ones-zero = refl

digits : (x m : ℕ) → (x % 2 ≡ 0) ⊎ (x % 2 ≡ 1) → (m % 2 ≡ 0) ⊎ (m % 2 ≡ 1) → (x % 2 ≡ 1 → m % 2 ≡ 1) → x % 2 + differ (m % 2) (x % 2) ≡ m % 2
digits x m (inl a) (inl b) f = ap₂ ◌+◌ a (ap₂ differ b a) ∙ sym b
digits x m (inl a) (inr b) f = ap₂ ◌+◌ a (ap₂ differ b a) ∙ sym b
digits x m (inr a) (inr b) f = ap₂ ◌+◌ a (ap₂ differ b a) ∙ sym b
digits x m (inr a) (inl b) f = absurd (omega (arith, f a))

pub ones-part : (x m : ℕ) → Sub x m → ones x + ones (bit_xor m x) ≡ ones m
ones-part = bin_ind (λ (x : ℕ). (m : ℕ) → Sub x m → ones x + ones (bit_xor m x) ≡ ones m)
    (λ m h. ap₂ ◌+◌ ones-zero (ap ones (xor_zero_r m)) ∙ omega arith)
    (λ x ih m h.
    let i = ih (m / 2) (λ j k. on-shift m j (h (suc j) (shift-on x j k))) in
    let p = ones_step x in
    let q = ones_step (bit_xor m x) in
    let r = ones_step m in
    let u : ones (bit_xor m x / 2) ≡ ones (bit_xor (m / 2) (x / 2)) = ap ones (xor_shr m x 1) in
    let v : x % 2 + bit_xor m x % 2 ≡ m % 2 = ap (λ (z : ℕ). x % 2 + z) (xor-odd m x) ∙ digits x m (even_odd x) (even_odd m) (λ k. first_on m (h 0 (on-first x k))) in
    omega arith)

pub ones_pos : (m : ℕ) → 0 < m → 0 < ones m
ones_pos = bin_ind (λ (m : ℕ). 0 < m → 0 < ones m) (λ h. absurd (omega arith)) (λ m ih h. go m h ih (even_odd m))
  where
    go : (m : ℕ) → 0 < m → (0 < m / 2 → 0 < ones (m / 2)) → (m % 2 ≡ 0) ⊎ (m % 2 ≡ 1) → 0 < ones m
    go m h ih (inl e) = let z : 0 < m / 2 = omega arith in let o = ones_step m in omega (arith, ih z)
    go m h ih (inr e) = let o = ones_step m in omega arith

pub ones_bit : (i : ℕ) → ones (2 ^ i) ≡ 1
unfolding ones ones_in
ones_bit zero = refl
ones_bit (suc i) = let e = pow-suc 2 i in ones_step (2 ^ suc i) ∙ ap₂ ◌+◌ (even-pow i) (ap ones (pow-half i) ∙ ones_bit i)
  where
    even-pow : (i : ℕ) → 2 ^ suc i % 2 ≡ 0
    even-pow i = let e = pow-suc 2 i in omega arith

pub ones-in : (d n : ℕ) → n < 2 ^ d → ones_in d n ≡ ones n
unfolding ones_in
ones-in zero n h = let z : n ≡ 0 = omega arith in sym (ap ones z ∙ ones-zero)
ones-in (suc d) n h = let e = pow-suc 2 d in ap (λ (x : ℕ). n % 2 + x) (ones-in d (n / 2) (omega arith)) ∙ sym (ones_step n)

pub ones_lt : (x m : ℕ) → Sub x m → x < m → ones x < ones m
ones_lt x m h l = let p : 0 < bit_xor m x = omega (arith, less-add m x h) in omega (arith, ones-part x m h, ones_pos (bit_xor m x) p)

pub pos-of-ones : (z : ℕ) → 0 < ones z → 0 < z
pos-of-ones zero h = absurd (omega (arith, ones-zero))
pos-of-ones (suc z) h = omega arith

-- ---- the count over n taxa

-- one bit more, above the others
in-last : (n m : ℕ) → ones_in (suc n) m ≡ ones_in n m + m / 2 ^ n % 2
unfolding ones_in
in-last zero m = omega arith
in-last (suc n) m = omega (arith, in-last n (m / 2), ap (λ (x : ℕ). x % 2) (shift m n))

below_in : (n m : ℕ) → ones_below n m ≡ ones_in n m
unfolding ones_below ones_in has
below_in zero m = refl
below_in (suc n) m = go (even_odd (m / 2 ^ n)) (below_in n m) ∙ sym (in-last n m)
  where
    go : (m / 2 ^ n % 2 ≡ 0) ⊎ (m / 2 ^ n % 2 ≡ 1) → ones_below n m ≡ ones_in n m
        → (if has m n then suc (ones_below n m) else ones_below n m) ≡ ones_in n m + m / 2 ^ n % 2
    go (inl e) h = if-false _ _ (ne_eqb (m / 2 ^ n % 2) 1 (λ d. omega arith)) ∙ omega arith
    go (inr e) h = if-true _ _ (eq-eqb (m / 2 ^ n % 2) 1 e) ∙ omega arith

pub below-ones : (n m : ℕ) → m < 2 ^ n → ones_below n m ≡ ones m
below-ones n m h = below_in n m ∙ ones-in n m h
