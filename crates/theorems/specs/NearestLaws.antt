-- `round` gives the nearest double: no other is nearer to the fraction.
--
--   between a b      how far apart two numbers are
--   closest-near     a fraction's closest whole number is as near as any
--   Nearer x y a c   x is as near to a / c as y is
--   round-nearest    what is rounded is as near as any double
use Prim.Native.Nat.{ℕ, zero, suc, ◌+◌, ◌-◌, ◌*◌, ◌/◌, ◌%◌, ◌^◌, ◌≤◌, ◌<◌, compare, Ordering}
use Rattle.std.proofs.Common.{zero-mul, mul-one, one-mul, mul_comm, mul_assoc, mul_right_comm, add-mul, mul-pos, mul-le-mul_right, le_of_mul-le-mul_right, le_trans, le_of_eq, le_of_lt, not-le_of_lt, div-add-mod', mod-lt, le-div_iff_mul-le, add-one, arith, sym, ap, ◌∙◌, subst, leb→le, eqb→eq, ltb→lt, pow-add, pow_pos, pow_mono, ltb-true, ltb-false}
use Rattle.std.proofs.Math.Nat.{mul-sub}
use Rattle.std.specs.Prelude.{◌≡◌, refl, Bool, true, false, not, ◌&&◌, T, leb, ltb, eqb, ℤ, pos, negsuc, Float}
use Rattle.std.proofs.Math.Dec.{is_le, compare_is_eq, nleb→lt, eqb_refl}
use Rattle.std.proofs.Math.Arith.{lt_of_le-ne}
use Rattle.std.proofs.Math.Pow.{pow-lt}
use Rattle.std.specs.Float.{nan, inf, fin, binary64}
use Rattle.std.specs.Float.Ieee.{up, down, size, nearest, round, fits}
use Rattle.std.specs.Float.Ieee.Digits.{size_reaches}
use Rattle.std.specs.Float.Ieee.Exact.{HasValue}
use Rattle.std.specs.Float.Ieee.Fits.{and_l, and_r}
use Rattle.std.specs.Float.Ieee.Nearest.{closest}
use Rattle.std.specs.Float.Ieee.Order.{drop, kept}
use Rattle.std.specs.Float.Ieee.Scale.{finite, grid, round_val, round_under}
use Rattle.std.specs.Float.Ieee.Positive.{num, den}

abbrev pub between : ℕ → ℕ → ℕ
between a b = (a - b) + (b - a)

between-times : (a b k : ℕ) → between (a * k) (b * k) ≡ between a b * k
between-times a b k =
    sym (add-mul (a - b) (b - a) k ∙ ap (λ (x : ℕ). x + (b - a) * k) (times a b) ∙ ap (λ (x : ℕ). (a * k - b * k) + x) (times b a))
  where
    times : (x y : ℕ) → (x - y) * k ≡ x * k - y * k
    times x y = mul_comm (x - y) k ∙ mul-sub k x y ∙ ap (λ (z : ℕ). z - k * y) (mul_comm k x) ∙ ap (λ (z : ℕ). x * k - z) (mul_comm k y)

-- ---- the closest whole number

abbrev Cmp : Ordering → ℕ → ℕ → Type 0
Cmp Ordering.lt a b = a < b
Cmp Ordering.eq a b = a ≡ b
Cmp Ordering.gt a b = b < a

cmp : (a b : ℕ) → Cmp (compare a b) a b
cmp a b = go (compare a b) (leb→le a b) (nleb→lt a b) (eqb→eq a b) (λ (e : a ≡ b). subst (λ (x : ℕ). T (eqb a x)) e (eqb_refl a))
  where
    go : (o : Ordering) → (T (is_le o) → a ≤ b) → (T (not (is_le o)) → b < a) → (T (compare_is_eq o) → a ≡ b) → (a ≡ b → T (compare_is_eq o)) → Cmp o a b
    go Ordering.lt h k e n = lt_of_le-ne (h tt) n
    go Ordering.eq h k e n = e tt
    go Ordering.gt h k e n = k tt

-- a is w * b + r: what lies at w * b, and at z * b
down-near : (a b w r z : ℕ) → a ≡ w * b + r → r < b → r * 2 ≤ b → between (w * b) a ≤ between (z * b) a
down-near a b w r z e l h = go (ltb w z) refl
  where
    go : (t : Bool) → ltb w z ≡ t → between (w * b) a ≤ between (z * b) a
    go true q =
        let m : (w + 1) * b ≤ z * b = mul-le-mul_right b (omega (arith, ltb-true w z q)) in
        let n : (w + 1) * b ≡ w * b + 1 * b = add-mul w 1 b in
        let o : 1 * b ≡ b = one-mul b in
        omega arith
    go false q =
        let m : z * b ≤ w * b = mul-le-mul_right b (ltb-false w z q) in
        omega arith

up-near : (a b w r z : ℕ) → a ≡ w * b + r → r < b → b ≤ r * 2 → between ((w + 1) * b) a ≤ between (z * b) a
up-near a b w r z e l h = go (ltb w z) refl
  where
    n : (w + 1) * b ≡ w * b + b
    n = add-mul w 1 b ∙ ap (λ (x : ℕ). w * b + x) (one-mul b)

    go : (t : Bool) → ltb w z ≡ t → between ((w + 1) * b) a ≤ between (z * b) a
    go true q =
        let m : (w + 1) * b ≤ z * b = mul-le-mul_right b (omega (arith, ltb-true w z q)) in
        let k = n in
        omega arith
    go false q =
        let m : z * b ≤ w * b = mul-le-mul_right b (ltb-false w z q) in
        let k = n in
        omega arith

pub closest-near : (a b z : ℕ) → 0 < b → between (closest a b * b) a ≤ between (z * b) a
closest-near a b z B = go (compare (a % b * 2) b) (cmp (a % b * 2) b)
  where
    w : ℕ
    w = a / b

    whole : a ≡ a / b * b + a % b
    whole = sym (div-add-mod' a b)

    tie : (t : ℕ) → a / b % 2 ≡ t → a % b * 2 ≡ b → between ((a / b + t) * b) a ≤ between (z * b) a
    tie zero e c = subst (λ (x : ℕ). between (x * b) a ≤ between (z * b) a) (plus-zero (a / b)) (down-near a b (a / b) (a % b) z whole (mod-lt a B) (le_of_eq c))
      where
        plus-zero : (x : ℕ) → x ≡ x + 0
        plus-zero x = omega arith
    tie (suc zero) e c = up-near a b (a / b) (a % b) z whole (mod-lt a B) (le_of_eq (sym c))
    tie (suc (suc t)) e c = absurd (no-two (a / b) t e)
      where
        no-two : (x t : ℕ) → x % 2 ≡ suc (suc t) → ⊥
        no-two x t e = omega arith

    go : (o : Ordering) → Cmp o (a % b * 2) b → between (nearest (a / b) o * b) a ≤ between (z * b) a
    go Ordering.lt c = down-near a b (a / b) (a % b) z whole (mod-lt a B) (le_of_lt c)
    go Ordering.eq c = tie (a / b % 2) refl c
    go Ordering.gt c = subst (λ (x : ℕ). between (x * b) a ≤ between (z * b) a) (add-one (a / b)) (up-near a b (a / b) (a % b) z whole (mod-lt a B) (le_of_lt c))

-- ---- among the whole numbers M * 2 ^ j with an M of 53 digits at most

regroup : (q c k : ℕ) → q * (c * k) ≡ q * k * c
regroup q c k = simp (mul_assoc, mul_comm)

grid-near : (n c M j : ℕ) → 0 < c → M < 2 ^ 53 → between (kept 53 n c * 2 ^ drop 53 n c * c) n ≤ between (M * 2 ^ j * c) n
grid-near n c M j C h = go (ltb j (drop 53 n c)) refl
  where
    k : ℕ
    k = drop 53 n c

    any : (z : ℕ) → between (kept 53 n c * 2 ^ drop 53 n c * c) n ≤ between (z * 2 ^ drop 53 n c * c) n
    any z = subst (λ (x : ℕ). between x n ≤ between (z * 2 ^ drop 53 n c * c) n) (regroup (kept 53 n c) c (2 ^ drop 53 n c))
        (subst (λ (x : ℕ). between (kept 53 n c * (c * 2 ^ drop 53 n c)) n ≤ between x n) (regroup z c (2 ^ drop 53 n c)) (closest-near n (c * 2 ^ drop 53 n c) z (mul-pos C (pow_pos (drop 53 n c)))))

    nearer : (x y : ℕ) → x ≤ y → y ≤ n → between y n ≤ between x n
    nearer x y p q = omega arith

    full : (s : ℕ) → j < s - 53 → 52 + (s - 53) < s
    full s p = omega arith

    room : (s : ℕ) → j < s - 53 → 53 + j ≤ 52 + (s - 53)
    room s p = omega arith

    go : (t : Bool) → ltb j (drop 53 n c) ≡ t → between (kept 53 n c * 2 ^ drop 53 n c * c) n ≤ between (M * 2 ^ j * c) n
    go true e =
        let l = ltb-true j (drop 53 n c) e in
        let P = 2 ^ (52 + drop 53 n c) in
        let a : P * c ≤ n = (le-div_iff_mul-le C).0 (size_reaches (n / c) (52 + drop 53 n c) (full (size (n / c)) l)) in
        let b : M * 2 ^ j ≤ P = le_trans (mul-le-mul_right (2 ^ j) (le_of_lt h)) (le_trans (le_of_eq (sym (pow-add 2 53 j))) (pow_mono (room (size (n / c)) l))) in
        le_trans (any (2 ^ 52)) (subst (λ (x : ℕ). between (x * c) n ≤ between (M * 2 ^ j * c) n) (pow-add 2 52 (drop 53 n c)) (nearer (M * 2 ^ j * c) (P * c) (mul-le-mul_right c b) a))
    go false e =
        let l = ltb-false j (drop 53 n c) e in
        subst (λ (x : ℕ). between (kept 53 n c * 2 ^ drop 53 n c * c) n ≤ between (x * c) n)
        (mul_assoc M (2 ^ (j - drop 53 n c)) (2 ^ drop 53 n c) ∙ ap (λ (x : ℕ). M * x) (sym (pow-add 2 (j - drop 53 n c) (drop 53 n c)) ∙ ap (λ (x : ℕ). 2 ^ x) (back j (drop 53 n c) l)))
        (any (M * 2 ^ (j - drop 53 n c)))
      where
        back : (j k : ℕ) → k ≤ j → j - k + k ≡ j
        back j k h = omega arith

-- ---- a double is such a number of smallest doubles

record Multiple (x : Float) : Type 0 where
  digits : ℕ
  place : ℕ
  few : digits < 2 ^ 53
  value : num x * 2 ^ 1074 ≡ digits * 2 ^ place * den x

multiple-of : (s : Bool) (m : ℕ) (e : ℤ) → T (fits binary64 (fin s m e)) → Multiple (fin s m e)
unfolding fits
multiple-of s zero e t = record { digits = 0; place = 0; few = pow_pos 53; value = ap (λ (x : ℕ). x * 2 ^ 1074) (zero-mul (up e)) ∙ zero-mul (2 ^ 1074) ∙ sym (zero-mul (down e)) }
multiple-of s (suc m) (pos k) t = record {
  digits = suc m;
  place = k + 1074;
  few = ltb→lt (suc m) (2 ^ 53) (and_r (eqb (suc m % 2) 1) (ltb (suc m) (2 ^ 53)) (and_l (eqb (suc m % 2) 1 && ltb (suc m) (2 ^ 53)) (leb 1 (2 ^ 1074)) (and_l (eqb (suc m % 2) 1 && ltb (suc m) (2 ^ 53) && leb 1 (2 ^ 1074)) (ltb (suc m * 2 ^ k) (2 ^ 1024 * 1)) t)));
  value = mul_assoc (suc m) (2 ^ k) (2 ^ 1074) ∙ ap (λ (x : ℕ). suc m * x) (sym (pow-add 2 k 1074)) ∙ sym (mul-one (suc m * 2 ^ (k + 1074)));
}
multiple-of s (suc m) (negsuc k) t = record {
  digits = suc m;
  place = 1074 - suc k;
  few = ltb→lt (suc m) (2 ^ 53) (and_r (eqb (suc m % 2) 1) (ltb (suc m) (2 ^ 53)) (and_l (eqb (suc m % 2) 1 && ltb (suc m) (2 ^ 53)) (leb (2 ^ suc k) (2 ^ 1074)) (and_l (eqb (suc m % 2) 1 && ltb (suc m) (2 ^ 53) && leb (2 ^ suc k) (2 ^ 1074)) (ltb (suc m * 1) (2 ^ 1024 * 2 ^ suc k)) t)));
  value =
      ap (λ (x : ℕ). x * 2 ^ 1074) (mul-one (suc m))
      ∙ ap (λ (x : ℕ). suc m * x) (sym (ap (λ (x : ℕ). 2 ^ x) (back 1074 (suc k) (shallow (ltb 1074 (suc k)) refl))) ∙ pow-add 2 (1074 - suc k) (suc k))
      ∙ sym (mul_assoc (suc m) (2 ^ (1074 - suc k)) (2 ^ suc k));
}
  where
    back : (j i : ℕ) → i ≤ j → j - i + i ≡ j
    back j i h = omega arith

    deep : T (leb (2 ^ suc k) (2 ^ 1074))
    deep = and_r (eqb (suc m % 2) 1 && ltb (suc m) (2 ^ 53)) (leb (2 ^ suc k) (2 ^ 1074)) (and_l (eqb (suc m % 2) 1 && ltb (suc m) (2 ^ 53) && leb (2 ^ suc k) (2 ^ 1074)) (ltb (suc m * 1) (2 ^ 1024 * 2 ^ suc k)) t)

    shallow : (b : Bool) → ltb 1074 (suc k) ≡ b → suc k ≤ 1074
    shallow true q = absurd (not-le_of_lt (pow-lt (ltb-true 1074 (suc k) q)) (leb→le (2 ^ suc k) (2 ^ 1074) deep))
    shallow false q = ltb-false 1074 (suc k) q

-- ---- as near as any double that is not negative; a negative one is farther off than 0 is

abbrev pub Nearer : Float → Float → ℕ → ℕ → Type 0
Nearer x y a c = between (num x * c) (a * den x) * den y ≤ between (num y * c) (a * den y) * den x

-- X / p is g / L
spread : (X p g a c L : ℕ) → X * L ≡ g * p → between (X * c) (a * p) * L ≡ between (g * c) (a * L) * p
spread X p g a c L e =
    sym (between-times (X * c) (a * p) L)
    ∙ ap (λ (z : ℕ). between z (a * p * L)) (mul_right_comm X c L ∙ ap (λ (z : ℕ). z * c) e ∙ mul_right_comm g p c)
    ∙ ap (λ (z : ℕ). between (g * c * p) z) (mul_right_comm a p L)
    ∙ between-times (g * c) (a * L) p

value_of : (x : Float) (g : ℕ) → HasValue x false g (2 ^ 1074) → num x * 2 ^ 1074 ≡ g * den x
value_of nan g h = absurd h
value_of (inf s) g h = absurd h
value_of (fin s m e) g h = h.1

pub round-nearest : (a c : ℕ) (m : ℕ) (e : ℤ) → 0 < c → T (finite (round binary64 false a c)) → T (fits binary64 (fin false m e)) → Nearer (round binary64 false a c) (fin false m e) a c
round-nearest a c m e C f t =
    let x = round binary64 false a c in
    let y = fin false m e in
    let L = 2 ^ 1074 in
    let g = grid binary64 a c in
    let u = multiple-of false m e t in
    let Y = u.digits * 2 ^ u.place in
    let p : num x * L ≡ g * den x = value_of x g (round_val binary64 a c (round_under binary64 a c f)) in
    let h : between (g * c) (a * L) ≤ between (Y * c) (a * L) = grid-near (a * L) c u.digits u.place C u.few in
    let l : between (num x * c) (a * den x) * den y * L ≡ between (g * c) (a * L) * (den x * den y) =
    mul_right_comm (between (num x * c) (a * den x)) (den y) L ∙ ap (λ (z : ℕ). z * den y) (spread (num x) (den x) g a c L p) ∙ mul_assoc (between (g * c) (a * L)) (den x) (den y) in
    let r : between (num y * c) (a * den y) * den x * L ≡ between (Y * c) (a * L) * (den x * den y) =
    mul_right_comm (between (num y * c) (a * den y)) (den x) L ∙ ap (λ (z : ℕ). z * den x) (spread (num y) (den y) Y a c L u.value) ∙ mul_assoc (between (Y * c) (a * L)) (den y) (den x) ∙ ap (λ (z : ℕ). between (Y * c) (a * L) * z) (mul_comm (den y) (den x)) in
    le_of_mul-le-mul_right (le_trans (le_of_eq l) (le_trans (mul-le-mul_right (den x * den y) h) (le_of_eq (sym r)))) (pow_pos 1074)
