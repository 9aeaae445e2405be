-- Laws of doubles that are rounded once from an exact fraction. `HasValue x s a c` says that x is finite, has the sign s, and is a / c in size.
--
--   mul-exact, div-exact           a product, a quotient of two values is one rounding of the exact one
--   round-finite, round-positive   between the smallest double and 2^128 what is rounded is finite and not 0
--   whole-value, ten-value         a whole number up to 2^53, a power of ten up to 22 are doubles
use Rattle.std.specs.Prelude.{◌≡◌, refl, Bool, true, false, cond, T, ltb, eqb, ℤ, pos, negsuc, Float}
use Rattle.std.proofs.Common.{sym, ap, ◌∙◌, subst, zero-lt-suc, zero-mul, one-mul, mul-pos, mul-one, mul_comm, mul_assoc, pow-suc, lt_of_le_of_lt, lt_of_lt_of_le, arith, le→leb, lit<, pow-add, pow_pos, pow_mono, shl_lt, ne_eqb}
use Prim.Native.Nat.{ℕ, zero, suc, ◌+◌, ◌-◌, ◌*◌, ◌/◌, ◌%◌, ◌^◌, ◌≤◌, ◌<◌, compare}
use Rattle.std.proofs.Math.Nat.{mul-mul-mul_comm, pow-le-pow_right}
use Rattle.std.specs.Float.{nan, inf, fin, Format, binary64}
use Rattle.std.specs.Float.Ieee.{prec, emax, low, unlike, up, down, size, nearest, units, odd, round, mul, div, le, of_int, in_float}
use Rattle.std.specs.Float.Ieee.Exact.{HasValue, odd_sign, round_exact}
use Rattle.std.specs.Float.Ieee.Fits.{up_pos, down_pos, round_is}
use Rattle.std.specs.Float.Ieee.Back.{round_whole}
use Rattle.std.specs.Float.Ieee.Order.{round_mono}
use Rattle.std.specs.Float.Ieee.Scale.{round_same, finite}
use Rattle.std.specs.Float.Ieee.Positive.{positive, above, above_of_le}

-- ---- products and quotients

crossed : (P Q a b c d D E : ℕ) → P * c ≡ a * D → Q * d ≡ b * E → P * Q * (c * d) ≡ a * b * (D * E)
crossed P Q a b c d D E h k = mul-mul-mul_comm P Q c d ∙ ap (λ (x : ℕ). x * (Q * d)) h ∙ ap (λ (x : ℕ). a * D * x) k ∙ mul-mul-mul_comm a D b E

pub mul-exact : (f : Format) (x y : Float) (s t : Bool) (a b c d : ℕ) → 0 < c → 0 < d → HasValue x s a c → HasValue y t b d
    → mul f x y ≡ round f (unlike s t) (a * b) (c * d)
unfolding mul
mul-exact f nan y s t a b c d C D h k = absurd h
mul-exact f (inf u) y s t a b c d C D h k = absurd h
mul-exact f (fin u m e) nan s t a b c d C D h k = absurd k
mul-exact f (fin u m e) (inf v) s t a b c d C D h k = absurd k
mul-exact f (fin u m e) (fin v n g) s t a b c d C D h k =
    ap (λ (z : Bool). round f (unlike z v) (m * up e * (n * up g)) (down e * down g)) h.0
    ∙ ap (λ (z : Bool). round f (unlike s z) (m * up e * (n * up g)) (down e * down g)) k.0
    ∙ round_same f (unlike s t) (m * up e * (n * up g)) (down e * down g) (a * b) (c * d) (mul-pos (down_pos e) (down_pos g)) (mul-pos C D) (crossed (m * up e) (n * up g) a b c d (down e) (down g) h.1 k.1)

turned : (P Q a b c d D E : ℕ) → P * c ≡ a * D → Q * d ≡ b * E → P * E * (b * c) ≡ a * d * (Q * D)
turned P Q a b c d D E h k =
    ap (λ (x : ℕ). P * E * x) (mul_comm b c)
    ∙ mul-mul-mul_comm P E c b
    ∙ ap (λ (x : ℕ). P * c * x) (mul_comm E b)
    ∙ ap (λ (x : ℕ). x * (b * E)) h
    ∙ ap (λ (x : ℕ). a * D * x) (sym k ∙ mul_comm Q d)
    ∙ mul-mul-mul_comm a D d Q
    ∙ ap (λ (x : ℕ). a * d * x) (mul_comm D Q)

no_zero : (n g d b E : ℕ) → 0 < b → 0 < E → n * g * d ≡ b * E → n ≡ 0 → ⊥
no_zero n g d b E B G h z =
    let p : 0 < b * E = mul-pos B G in
    let q : n * g * d ≡ 0 = ap (λ (x : ℕ). x * g * d) z ∙ ap (λ (x : ℕ). x * d) (zero-mul g) ∙ zero-mul d in
    omega arith

pub div-exact : (f : Format) (x y : Float) (s t : Bool) (a b c d : ℕ) → 0 < b → 0 < c → 0 < d → HasValue x s a c → HasValue y t b d
    → div f x y ≡ round f (unlike s t) (a * d) (b * c)
unfolding div
div-exact f nan y s t a b c d B C D h k = absurd h
div-exact f (inf u) y s t a b c d B C D h k = absurd h
div-exact f (fin u m e) nan s t a b c d B C D h k = absurd k
div-exact f (fin u m e) (inf v) s t a b c d B C D h k = absurd k
div-exact f (fin u m e) (fin v zero g) s t a b c d B C D h k = absurd (no_zero zero (up g) d b (down g) B (down_pos g) k.1 refl)
div-exact f (fin u m e) (fin v (suc n) g) s t a b c d B C D h k =
    ap (λ (z : Bool). cond z (cond (eqb m 0) nan (inf (unlike u v))) (round f (unlike u v) (m * up e * down g) (suc n * up g * down e))) (ne_eqb (suc n) 0 (λ z. omega arith))
    ∙ ap (λ (z : Bool). round f (unlike z v) (m * up e * down g) (suc n * up g * down e)) h.0
    ∙ ap (λ (z : Bool). round f (unlike s z) (m * up e * down g) (suc n * up g * down e)) k.0
    ∙ round_same f (unlike s t) (m * up e * down g) (suc n * up g * down e) (a * d) (b * c)
    (mul-pos (mul-pos (zero-lt-suc n) (up_pos g)) (down_pos e)) (mul-pos B C)
    (turned (m * up e) (suc n * up g) a b c d (down e) (down g) h.1 k.1)

-- ---- bounds of what is rounded

-- below an ordinary number nothing is infinite
units-finite : (q k : ℕ) (m : ℕ) (e : ℤ) → T (le (units binary64 false q k) (fin false m e)) → T (finite (units binary64 false q k))
unfolding units
units-finite q k m e = go (ltb (q * 2 ^ k) (2 ^ (low binary64 + suc (emax binary64))))
  where
    value : (x : Float) → HasValue x false (q * 2 ^ k) (2 ^ low binary64) → T (finite x)
    value nan h = absurd h
    value (inf t) h = absurd h
    value (fin t m e) h = tt

    go : (b : Bool) → T (le (cond b (odd (suc (prec binary64)) false q k (low binary64)) (inf false)) (fin false m e)) → T (finite (cond b (odd (suc (prec binary64)) false q k (low binary64)) (inf false)))
    go true t = value (odd (suc (prec binary64)) false q k (low binary64)) (odd_sign (suc (prec binary64)) false q k (low binary64))
    go false t = absurd (unfold le in t)

below-finite : (a b m : ℕ) (e : ℤ) → T (le (round binary64 false a b) (fin false m e)) → T (finite (round binary64 false a b))
below-finite a b m e h =
    let n = a * 2 ^ low binary64 in
    let k = size (n / b) - prec binary64 in
    let u = b * 2 ^ k in
    let q = nearest (n / u) (compare (n % u * 2) u) in
    subst (λ (x : Float). T (finite x)) (sym (round_is binary64 false a b)) (units-finite q k m e (subst (λ (x : Float). T (le x (fin false m e))) (round_is binary64 false a b) h))

large : round binary64 false (2 ^ 128) 1 ≡ fin false 1 (pos 128)
unfolding round
large = refl

-- the smallest double
small : round binary64 false 1 (2 ^ 1074) ≡ fin false 1 (negsuc 1073)
unfolding round
small = refl

both : (x : Float) → T (above x) → T (finite x) → T (positive x)
both nan h k = h
both (inf s) h k = absurd k
both (fin true m e) h k = h
both (fin false m e) h k = h

below-large : (a b : ℕ) → 0 < b → a ≤ 2 ^ 128 * b → T (le (round binary64 false a b) (fin false 1 (pos 128)))
below-large a b B k = subst (λ (y : Float). T (le (round binary64 false a b) y)) large (round_mono binary64 a b (2 ^ 128) 1 B (zero-lt-suc 0) (rw (mul-one a) k))

pub round-finite : (a b : ℕ) → 0 < b → a ≤ 2 ^ 128 * b → T (finite (round binary64 false a b))
round-finite a b B k = below-finite a b 1 (pos 128) (below-large a b B k)

pub round-positive : (a b : ℕ) → 0 < b → b ≤ a * 2 ^ 1074 → a ≤ 2 ^ 128 * b → T (positive (round binary64 false a b))
round-positive a b B h k =
    let x = round binary64 false a b in
    let lo : T (le (fin false 1 (negsuc 1073)) x) = subst (λ (y : Float). T (le y x)) small (round_mono binary64 1 (2 ^ 1074) a b (pow_pos 1074) B (rw (one-mul b) h)) in
    both x (above_of_le (fin false 1 (negsuc 1073)) x tt lo) (round-finite a b B k)

-- ---- whole numbers and powers of ten

pub whole-fits : (n : ℕ) → n ≤ 2 ^ 53 → T (in_float binary64 (pos n))
unfolding in_float
whole-fits n h = le→leb n (2 ^ 53) h

pub whole-value : (n : ℕ) → n ≤ 2 ^ 53 → HasValue (of_int binary64 (pos n)) false n 1
unfolding of_int
whole-value n h = round_whole binary64 false n h

pub ten-pos : (k : ℕ) → 0 < 10 ^ k
ten-pos zero = zero-lt-suc 0
ten-pos (suc k) = let p = ten-pos k in rw (pow-suc 10 k) (omega arith)

pub ten-most : (k : ℕ) → k ≤ 22 → 10 ^ k ≤ 10 ^ 22
ten-most k h = pow-le-pow_right (zero-lt-suc 9) h

-- 10 ^ k up to 22 is a double
pub ten-value : (k : ℕ) → k ≤ 22 → HasValue (of_int binary64 (pos (10 ^ k))) false (10 ^ k) 1
unfolding of_int
ten-value k h =
    let f : 5 ^ k < 2 ^ 53 = lt_of_le_of_lt (pow-le-pow_right (zero-lt-suc 4) h) (lit< tt) in
    let e : 10 ^ k * 2 ^ 1074 ≡ 5 ^ k * 2 ^ (k + 1074) * 1 =
    ap (λ (x : ℕ). x * 2 ^ 1074) (ten-parts k) ∙ mul_assoc (5 ^ k) (2 ^ k) (2 ^ 1074) ∙ ap (λ (x : ℕ). 5 ^ k * x) (sym (pow-add 2 k 1074)) ∙ sym (mul-one (5 ^ k * 2 ^ (k + 1074))) in
    round_exact binary64 false (10 ^ k) 1 (5 ^ k) (k + 1074) (zero-lt-suc 0) f (lt_of_lt_of_le (shl_lt 53 (k + 1074) f) (pow_mono (room k h))) e
  where
    room : (k : ℕ) → k ≤ 22 → 53 + (k + 1074) ≤ 1074 + 1024
    room k h = omega arith

    ten-parts : (k : ℕ) → 10 ^ k ≡ 5 ^ k * 2 ^ k
    ten-parts zero = refl
    ten-parts (suc k) = pow-suc 10 k ∙ ap (λ (x : ℕ). x * 10) (ten-parts k) ∙ mul-mul-mul_comm (5 ^ k) (2 ^ k) 5 2 ∙ ap (λ (x : ℕ). x * (2 ^ k * 2)) (sym (pow-suc 5 k)) ∙ ap (λ (x : ℕ). 5 ^ suc k * x) (sym (pow-suc 2 k))
