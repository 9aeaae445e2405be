-- "A two-child root's single split has the sum of both lengths": the sum of two lengths that were read is finite and not minus zero.
--
--   Moderate x       x is a double, finite, not minus zero, and at most 2^127 in size
--   length-moderate  the value of a length is so
--   add-proper       the rounded sum of two such doubles is finite and not minus zero
--   sum-of-lengths-proper   and so is that of two lengths
use Rattle.std.specs.Prelude.{ℕ, zero, suc, ◌+◌, ◌-◌, ◌*◌, ◌%◌, ◌^◌, ◌≤◌, ◌<◌, ◌≡◌, Bool, not, ◌&&◌, cond, List, T, leb, eqb, ℤ, pos, negsuc, Float, if◌then◌else◌}
use Rattle.std.proofs.Common.{zero-lt-suc, mul-one, one-mul, mul_comm, mul_assoc, mul_left_comm, add-mul, mul-le-mul, mul-le-mul_left, mul-le-mul_right, mul-lt-mul_of_pos_right, lt_of_mul-lt-mul_right, le_trans, le_of_eq, not-le_of_lt, add-sub_of_le, arith, sym, ◌∙◌, subst, ltb→lt, leb→le, eqb→eq, lit≤, pow-add, pow_pos, ltb-true, ltb-false, leb-true, ne_eqb}
use Rattle.std.proofs.Math.Nat.{mul-sub, mul-pos, pow-succ'}
use Rattle.std.proofs.Math.Path.{refl, ap}
use Rattle.std.proofs.Math.Bool.{true, false}
use Rattle.std.proofs.lemmas.Bool.{false≢true}
use Rattle.std.proofs.Math.Option.{some}
use Rattle.std.proofs.Math.Dec.{ltb}
use Rattle.std.proofs.Math.Pow.{pow-lt}
use Rattle.std.specs.Float.{nan, inf, fin}
use Rattle.std.specs.Float.Ieee.{binary64, up, down, round, neg, sum, add, le, fits}
use Rattle.std.specs.Float.Ieee.Fits.{up_pos, down_pos, and_l, and_r}
use Rattle.std.specs.Float.Ieee.Order.{round_mono}
use Rattle.std.specs.Float.Ieee.Scale.{finite}
use Rattle.std.specs.Float.Ieee.Positive.{positive, num, den, le→cross}
use Rattle.trees.specs.Value.{is_minus, joined_digits, power, inside, scaled, signed, length_of, proper}
use Rattle.theorems.specs.Size.{size, plus}
use Rattle.theorems.specs.SizeLaws.{round-size, round-plus}
use Rattle.theorems.specs.FloatLaws.{round-finite, round-positive, ten-pos, ten-most}
use Rattle.theorems.specs.ValueLaws.{scaled-positive, scaled-zero, length-valued, length-proper, length-fits}

pub record Moderate (x : Float) : Type 0 where
  pub proper : proper x ≡ true
  pub fits : T (fits binary64 x)
  pub small : num x ≤ 2 ^ 127 * den x

-- ---- a length that was read

large : round binary64 false (2 ^ 127) 1 ≡ fin false 1 (pos 127)
unfolding round
large = refl

round_under : (a b : ℕ) → 0 < b → a ≤ 2 ^ 127 * b → T (positive (round binary64 false a b)) → num (round binary64 false a b) ≤ 2 ^ 127 * den (round binary64 false a b)
round_under a b B k p =
    let x = round binary64 false a b in
    let h : T (le x (fin false 1 (pos 127))) = subst (λ (y : Float). T (le x y)) large (round_mono binary64 a b (2 ^ 127) 1 B (zero-lt-suc 0) (rw (mul-one a) k)) in
    le_trans (le_of_eq (sym (mul-one (num x)))) (le→cross x (fin false 1 (pos 127)) p tt h)

scaled_under : (n : ℕ) (p : ℤ) → 0 < n → n ≤ 2 ^ 53 → inside p ≡ true → num (scaled n p) ≤ 2 ^ 127 * den (scaled n p)
unfolding scaled inside
scaled_under n (pos k) N h i = round_under (n * 10 ^ k) 1 (zero-lt-suc 0) (le_trans (mul-le-mul h (ten-most k (leb-true k 22 i))) (lit≤ tt)) (scaled-positive n (pos k) N h i)
scaled_under n (negsuc k) N h i = round_under n (10 ^ suc k) (ten-pos (suc k)) (le_trans h (le_trans (lit≤ tt) (mul-le-mul_left (2 ^ 127) (ten-pos (suc k))))) (scaled-positive n (negsuc k) N h i)

neg-under : (t : Bool) (x : Float) → num x ≤ 2 ^ 127 * den x → num (if t then neg x else x) ≤ 2 ^ 127 * den (if t then neg x else x)
unfolding neg
neg-under true nan h = h
neg-under true (inf s) h = h
neg-under true (fin s m e) h = h
neg-under false x h = h

zero-under : num (fin false 0 (pos 0)) ≤ 2 ^ 127 * den (fin false 0 (pos 0))
zero-under = lit≤ tt

signed-under : (t : Bool) (n : ℕ) (p : ℤ) → n ≤ 2 ^ 53 → inside p ≡ true → num (signed t n (scaled n p)) ≤ 2 ^ 127 * den (signed t n (scaled n p))
unfolding signed
signed-under t zero p h i = neg-under (t && not (eqb 0 0)) (scaled 0 p) (rw (scaled-zero p) zero-under)
signed-under t (suc n) p h i = neg-under (t && not (eqb (suc n) 0)) (scaled (suc n) p) (scaled_under (suc n) p (zero-lt-suc n) h i)

pub length-moderate : (w : List ℕ) (x : Float) → length_of w ≡ some x → Moderate x
length-moderate w x h =
    let v = length-valued w x h in
    record {
      proper = length-proper w x h;
      fits = length-fits w x h;
      small = rw (← v.value) (signed-under (is_minus w) (joined_digits w) (power w) v.few v.near);
    }

-- ---- what rounding gives

plain-proper : (x : Float) → T (finite x) → plus x ≡ true → proper x ≡ true
unfolding plus proper
plain-proper nan f p = absurd f
plain-proper (inf s) f p = absurd f
plain-proper (fin true m e) f p = absurd (false≢true p)
plain-proper (fin false m e) f p = refl

sized-proper : (x : Float) → T (positive (size x)) → proper x ≡ true
unfolding size proper
sized-proper nan p = absurd p
sized-proper (inf s) p = absurd p
sized-proper (fin true m e) p = let l = ltb→lt 0 m p in ap not (ne_eqb m 0 (λ z. omega arith))
sized-proper (fin false m e) p = refl

-- without a sign
round-plain : (a c : ℕ) → 0 < c → a ≤ 2 ^ 128 * c → proper (round binary64 false a c) ≡ true
round-plain a c C h = plain-proper (round binary64 false a c) (round-finite a c C h) (round-plus binary64 a c)

-- with a sign or without, from the smallest double on
round-signed : (s : Bool) (a c : ℕ) → 0 < c → c ≤ a * 2 ^ 1074 → a ≤ 2 ^ 128 * c → proper (round binary64 s a c) ≡ true
round-signed s a c C l h = sized-proper (round binary64 s a c) (subst (λ (x : Float). T (positive x)) (sym (round-size binary64 s a c)) (round-positive a c C l h))

-- ---- a double is a whole number of smallest doubles

-- 2 ^ 1074 as a multiple of `down e`
too-deep : (k : ℕ) → 1074 < suc k → T (leb (2 ^ suc k) (2 ^ 1074)) → ⊥
too-deep k h t = not-le_of_lt (pow-lt h) (leb→le (2 ^ suc k) (2 ^ 1074) t)

no-half : (k : ℕ) → 1 * 2 ^ suc k ≡ 1 → ⊥
no-half k h = two_up (2 ^ k) (pow_pos k) (sym (pow-succ' 2 k) ∙ sym (one-mul (2 ^ suc k)) ∙ h)
  where
    two_up : (p : ℕ) → 0 < p → 2 * p ≡ 1 → ⊥
    two_up p h e = omega arith

part : (s : Bool) (m : ℕ) (e : ℤ) → T (fits binary64 (fin s m e)) → (p : ℕ) × (0 < p) × (down e * p ≡ 2 ^ 1074)
unfolding fits
part s m (pos k) t = (2 ^ 1074, pow_pos 1074, one-mul (2 ^ 1074))
part s zero (negsuc k) t = absurd (no-half k (eqb→eq (1 * 2 ^ suc k) 1 t))
part s (suc m) (negsuc k) t = go (ltb 1074 (suc k)) refl
  where
    deep : T (leb (2 ^ suc k) (2 ^ 1074))
    deep = and_r (eqb (suc m % 2) 1 && ltb (suc m) (2 ^ 53)) (leb (2 ^ suc k) (2 ^ 1074)) (and_l (eqb (suc m % 2) 1 && ltb (suc m) (2 ^ 53) && leb (2 ^ suc k) (2 ^ 1074)) (ltb (suc m * 1) (2 ^ 1024 * 2 ^ suc k)) t)

    go : (b : Bool) → ltb 1074 (suc k) ≡ b → (p : ℕ) × (0 < p) × (2 ^ suc k * p ≡ 2 ^ 1074)
    go true q = absurd (too-deep k (ltb-true 1074 (suc k) q) deep)
    go false q = (2 ^ (1074 - suc k), pow_pos (1074 - suc k), sym (pow-add 2 (suc k) (1074 - suc k)) ∙ ap (λ (x : ℕ). 2 ^ x) (add-sub_of_le (ltb-false 1074 (suc k) q)))

-- A / C is M smallest doubles, B / C is N
more-than : (A B C L M N : ℕ) → 0 < L → A * L ≡ M * C → B * L ≡ N * C → B < A → C ≤ (A - B) * L
more-than A B C L M N P p q h =
    let a : B * L < A * L = mul-lt-mul_of_pos_right h P in
    let b : N < M = lt_of_mul-lt-mul_right C (subst (λ (x : ℕ). x < M * C) q (subst (λ (x : ℕ). B * L < x) p a)) in
    let c : (N + 1) * C ≤ M * C = mul-le-mul_right C (omega arith) in
    let d : (N + 1) * C ≡ N * C + 1 * C = add-mul N 1 C in
    let e : 1 * C ≡ C = one-mul C in
    let f : (A - B) * L ≡ L * A - L * B = mul_comm (A - B) L ∙ mul-sub L A B in
    let g : L * A ≡ A * L = mul_comm L A in
    let g' : L * B ≡ B * L = mul_comm L B in
    last (A * L) (B * L) (M * C) (N * C) C ((A - B) * L) p q (subst (λ (x : ℕ). x ≤ M * C) (d ∙ ap (λ (x : ℕ). N * C + x) e) c) (f ∙ ap (λ (x : ℕ). x - L * B) g ∙ ap (λ (x : ℕ). A * L - x) g')
  where
    last : (x y u v c z : ℕ) → x ≡ u → y ≡ v → v + c ≤ u → z ≡ x - y → c ≤ z
    last x y u v c z p q h e = omega arith

at_least : (A B C L M N : ℕ) → 0 < M → A * L ≡ M * C → B * L ≡ N * C → C ≤ (A + B) * L
at_least A B C L M N P p q =
    le_trans (le_of_eq (sym (one-mul C))) (le_trans (mul-le-mul_right C P) (le_trans (le_of_eq (sym p)) (last (A * L) (B * L) ((A + B) * L) (add-mul A B L))))
  where
    last : (x y z : ℕ) → z ≡ x + y → x ≤ z
    last x y z e = omega arith

-- ---- the sum

twice : (C : ℕ) → 2 ^ 127 * C + 2 ^ 127 * C ≡ 2 ^ 128 * C
twice C = sym (add-mul (2 ^ 127) (2 ^ 127) C)

module _ (A B C M N : ℕ) (pc : 0 < C) (a : A ≤ 2 ^ 127 * C) (b : B ≤ 2 ^ 127 * C) (p : A * 2 ^ 1074 ≡ M * C) (q : B * 2 ^ 1074 ≡ N * C) where
  sum-most : A + B ≤ 2 ^ 128 * C
  sum-most = subst (λ (x : ℕ). A + B ≤ x) (twice C) (go (2 ^ 127 * C) a b)
    where
      go : (K : ℕ) → A ≤ K → B ≤ K → A + B ≤ K + K
      go K h k = omega arith

  less-most : (X Y : ℕ) → X ≤ 2 ^ 127 * C → X - Y ≤ 2 ^ 128 * C
  less-most X Y h = subst (λ (x : ℕ). X - Y ≤ x) (twice C) (go (2 ^ 127 * C) h)
    where
      go : (K : ℕ) → X ≤ K → X - Y ≤ K + K
      go K h = omega arith

  sum-proper : (s t : Bool) → (s ≡ true → 0 < M) → proper (sum binary64 s A t B C) ≡ true
  unfolding sum
  sum-proper false false z = round-plain (A + B) C pc sum-most
  sum-proper true true z = round-signed true (A + B) C pc (at_least A B C (2 ^ 1074) M N (z refl) p q) sum-most
  sum-proper false true z = go (ltb A B) refl
    where
      go : (c : Bool) → ltb A B ≡ c → proper (cond c (round binary64 true (B - A) C) (round binary64 (false && ltb B A) (A - B) C)) ≡ true
      go true e = round-signed true (B - A) C pc (more-than B A C (2 ^ 1074) N M (pow_pos 1074) q p (ltb-true A B e)) (less-most B A b)
      go false e = round-plain (A - B) C pc (less-most A B a)
  sum-proper true false z = go (ltb A B) (ltb B A) refl
    where
      go : (c d : Bool) → ltb B A ≡ d → proper (cond c (round binary64 false (B - A) C) (round binary64 (true && d) (A - B) C)) ≡ true
      go true d e = round-plain (B - A) C pc (less-most B A b)
      go false true e = round-signed true (A - B) C pc (more-than A B C (2 ^ 1074) M N (pow_pos 1074) p q (ltb-true B A e)) (less-most A B a)
      go false false e = round-plain (A - B) C pc (less-most A B a)

units_of : (x g d h l : ℕ) → d * h ≡ l → x * g * l ≡ x * h * (d * g)
units_of x g d h l e = ap (λ (z : ℕ). x * g * z) (sym e) ∙ simp (mul_assoc, mul_comm, mul_left_comm)

no-minus-zero : (s : Bool) (m : ℕ) (e : ℤ) → proper (fin s m e) ≡ true → s ≡ true → 0 < m
unfolding proper
no-minus-zero false m e h q = absurd (false≢true q)
no-minus-zero true zero e h q = absurd (false≢true h)
no-minus-zero true (suc m) e h q = omega arith

improper : (x : Float) → proper x ≡ true → proper x ≡ false → ⊥
improper x h k = false≢true (sym k ∙ h)

pub add-proper : (x y : Float) → Moderate x → Moderate y → proper (add binary64 x y) ≡ true
add-proper nan y h k = absurd (improper nan h.proper (unfold proper in refl))
add-proper (inf s) y h k = absurd (improper (inf s) h.proper (unfold proper in refl))
add-proper (fin s m e) nan h k = absurd (improper nan k.proper (unfold proper in refl))
add-proper (fin s m e) (inf t) h k = absurd (improper (inf t) k.proper (unfold proper in refl))
add-proper (fin s m e) (fin t n d) h k =
    let u = part s m e h.fits in
    let v = part t n d k.fits in
    let C = down e * down d in
    unfold add in
    sum-proper (m * up e * down d) (n * up d * down e) C (m * up e * u.0) (n * up d * v.0)
    (mul-pos (down_pos e) (down_pos d))
    (le_trans (mul-le-mul_right (down d) h.small) (le_of_eq (mul_assoc (2 ^ 127) (down e) (down d))))
    (le_trans (mul-le-mul_right (down e) k.small) (le_of_eq (mul_assoc (2 ^ 127) (down d) (down e) ∙ ap (λ (z : ℕ). 2 ^ 127 * z) (mul_comm (down d) (down e)))))
    (units_of (m * up e) (down d) (down e) u.0 (2 ^ 1074) u.2)
    (units_of (n * up d) (down e) (down d) v.0 (2 ^ 1074) v.2 ∙ ap (λ (z : ℕ). n * up d * v.0 * z) (mul_comm (down d) (down e)))
    s t (λ r. mul-pos (mul-pos (no-minus-zero s m e h.proper r) (up_pos e)) u.1)

-- of two lengths that were read
pub sum-of-lengths-proper : (v w : List ℕ) (x y : Float) → length_of v ≡ some x → length_of w ≡ some y → proper (add binary64 x y) ≡ true
sum-of-lengths-proper v w x y h k = add-proper x y (length-moderate v x h) (length-moderate w y k)
