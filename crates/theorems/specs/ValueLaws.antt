-- What the value of a length is, in the words of request 2026-03.
--
--   measured-in, measured-large, measured-far   what `measured` is, in the exact range and outside it
--   scaled-times, scaled-by   "that number as a double times or divided by the power of ten": the product or the quotient of two doubles
--   scaled-nearest            "rounded once": no double is nearer to n * 10 ^ p
--   scaled-positive, scaled-zero   it is 0 only where the number is
--   length-valued             a length that has a value is in the exact range, and that is its value
--   length-proper             the value of a length is finite and not minus zero
--   length-fits               and it is a double
use Rattle.std.specs.Prelude.{ℕ, zero, suc, ◌*◌, ◌^◌, ◌≤◌, ◌<◌, ◌≡◌, refl, Bool, true, false, not, ◌&&◌, List, T, leb, eqb, ℤ, pos, negsuc, Float, if◌then◌else◌}
use Rattle.std.proofs.Common.{zero-lt-suc, zero-mul, mul-one, mul-pos, mul-le-mul, mul-le-mul_left, mul-le-mul_right, le_trans, arith, sym, ap, ◌∙◌, ltb→lt, lit≤, pow_pos, le-leb, leb-true, ne_eqb}
use Rattle.std.proofs.Math.Option.{Option, none, some}
use Rattle.std.proofs.lemmas.Bool.{lt-leb}
use Rattle.std.specs.Float.{nan, inf, fin, binary64}
use Rattle.std.specs.Float.Ieee.{round, neg, mul, div, of_int, fits}
use Rattle.std.specs.Float.Ieee.Exact.{HasValue}
use Rattle.std.specs.Float.Ieee.Fits.{round-fits, neg-fits}
use Rattle.std.specs.Float.Ieee.Scale.{round_same, finite}
use Rattle.std.specs.Float.Ieee.Positive.{positive}
use Rattle.trees.specs.Value.{is_minus, joined_digits, power, inside, scaled, signed, measured, length_of, proper}
use Rattle.theorems.specs.ListLaws.{and_left, and_right}
use Rattle.theorems.specs.FloatLaws.{mul-exact, div-exact, round-finite, round-positive, whole-value, ten-pos, ten-most, ten-value}
use Rattle.theorems.specs.NearestLaws.{Nearer, round-nearest}

-- ---- in the exact range and outside it

pub measured-in : (t : Bool) (n : ℕ) (p : ℤ) → n ≤ 2 ^ 53 → inside p ≡ true → measured t n p ≡ some (signed t n (scaled n p))
unfolding measured
measured-in t n p h k = rw (le-leb n (2 ^ 53) h, k)

pub measured-large : (t : Bool) (n : ℕ) (p : ℤ) → 2 ^ 53 < n → measured t n p ≡ none
unfolding measured
measured-large t n p h = rw (lt-leb n (2 ^ 53) h)

pub measured-far : (t : Bool) (n : ℕ) (p : ℤ) → inside p ≡ false → measured t n p ≡ none
unfolding measured
measured-far t n p k = go (leb n (2 ^ 53))
  where
    go : (b : Bool) → (if b && inside p then some (signed t n (scaled n p)) else none) ≡ none
    go true = rw k
    go false = refl

pub inside-up : (k : ℕ) → k ≤ 22 → inside (pos k) ≡ true
unfolding inside
inside-up k h = le-leb k 22 h

pub outside-up : (k : ℕ) → 22 < k → inside (pos k) ≡ false
unfolding inside
outside-up k h = lt-leb k 22 h

pub inside-down : (k : ℕ) → k < 22 → inside (negsuc k) ≡ true
unfolding inside
inside-down k h = le-leb (suc k) 22 (omega arith)

pub outside-down : (k : ℕ) → 22 ≤ k → inside (negsuc k) ≡ false
unfolding inside
outside-down k h = lt-leb (suc k) 22 (omega arith)

-- ---- a whole number and a power of ten

-- by any double that is the power of ten
pub times-ten : (n k : ℕ) (y : Float) → n ≤ 2 ^ 53 → HasValue y false (10 ^ k) 1 → mul binary64 (of_int binary64 (pos n)) y ≡ scaled n (pos k)
unfolding scaled
times-ten n k y h v = mul-exact binary64 (of_int binary64 (pos n)) y false false n (10 ^ k) 1 1 (zero-lt-suc 0) (zero-lt-suc 0) (whole-value n h) v

pub by_ten : (n k : ℕ) (y : Float) → n ≤ 2 ^ 53 → HasValue y false (10 ^ suc k) 1 → div binary64 (of_int binary64 (pos n)) y ≡ scaled n (negsuc k)
unfolding scaled
by_ten n k y h v =
    div-exact binary64 (of_int binary64 (pos n)) y false false n (10 ^ suc k) 1 1 (ten-pos (suc k)) (zero-lt-suc 0) (zero-lt-suc 0) (whole-value n h) v
    ∙ ap (λ (z : ℕ). round binary64 false z (10 ^ suc k * 1)) (mul-one n)
    ∙ ap (λ (z : ℕ). round binary64 false n z) (mul-one (10 ^ suc k))

-- "that number as a double times or divided by the power of ten"
pub scaled-times : (n k : ℕ) → n ≤ 2 ^ 53 → k ≤ 22 → scaled n (pos k) ≡ mul binary64 (of_int binary64 (pos n)) (of_int binary64 (pos (10 ^ k)))
scaled-times n k h l = sym (times-ten n k (of_int binary64 (pos (10 ^ k))) h (ten-value k l))

pub scaled-by : (n k : ℕ) → n ≤ 2 ^ 53 → suc k ≤ 22 → scaled n (negsuc k) ≡ div binary64 (of_int binary64 (pos n)) (of_int binary64 (pos (10 ^ suc k)))
scaled-by n k h l = sym (by_ten n k (of_int binary64 (pos (10 ^ suc k))) h (ten-value (suc k) l))

-- ---- the nearest double

scaled-finite : (n : ℕ) (p : ℤ) → n ≤ 2 ^ 53 → inside p ≡ true → T (finite (scaled n p))
unfolding scaled inside
scaled-finite n (pos k) h i = round-finite (n * 10 ^ k) 1 (zero-lt-suc 0) (le_trans (mul-le-mul h (ten-most k (leb-true k 22 i))) (lit≤ tt))
scaled-finite n (negsuc k) h i = round-finite n (10 ^ suc k) (ten-pos (suc k)) (le_trans h (le_trans (lit≤ tt) (mul-le-mul_left (2 ^ 128) (ten-pos (suc k)))))

-- n * 10 ^ p as a fraction
abbrev pub over : ℕ → ℤ → ℕ
over n (pos k) = n * 10 ^ k
over n (negsuc k) = n

abbrev pub under : ℤ → ℕ
under (pos k) = 1
under (negsuc k) = 10 ^ suc k

-- "rounded once": no double that is not negative is nearer; a negative one is farther off than 0 is
pub scaled-nearest : (n : ℕ) (p : ℤ) (m : ℕ) (e : ℤ) → n ≤ 2 ^ 53 → inside p ≡ true → T (fits binary64 (fin false m e)) → Nearer (scaled n p) (fin false m e) (over n p) (under p)
unfolding scaled
scaled-nearest n (pos k) m e h i t = round-nearest (n * 10 ^ k) 1 m e (zero-lt-suc 0) (scaled-finite n (pos k) h i) t
scaled-nearest n (negsuc k) m e h i t = round-nearest n (10 ^ suc k) m e (ten-pos (suc k)) (scaled-finite n (negsuc k) h i) t

-- ---- zero only where the digits are

pub scaled-positive : (n : ℕ) (p : ℤ) → 0 < n → n ≤ 2 ^ 53 → inside p ≡ true → T (positive (scaled n p))
unfolding scaled inside
scaled-positive n (pos k) N h i =
    let t = ten-most k (leb-true k 22 i) in
    let u = ten-pos k in
    let m : n * 10 ^ k ≤ 2 ^ 53 * 10 ^ 22 = mul-le-mul h t in
    let l : 0 < n * 10 ^ k = mul-pos N u in
    round-positive (n * 10 ^ k) 1 (zero-lt-suc 0) (mul-pos l (pow_pos 1074)) (le_trans m (lit≤ tt))
scaled-positive n (negsuc k) N h i =
    let t = ten-most (suc k) (leb-true (suc k) 22 i) in
    let u = ten-pos (suc k) in
    round-positive n (10 ^ suc k) u (le_trans t (le_trans (lit≤ tt) (mul-le-mul_right (2 ^ 1074) N))) (le_trans h (le_trans (lit≤ tt) (mul-le-mul_left (2 ^ 128) u)))

zero-plain : round binary64 false 0 1 ≡ fin false 0 (pos 0)
unfolding round
zero-plain = refl

pub scaled-zero : (p : ℤ) → scaled 0 p ≡ fin false 0 (pos 0)
unfolding scaled
scaled-zero (pos k) = ap (λ (x : ℕ). round binary64 false x 1) (zero-mul (10 ^ k)) ∙ zero-plain
scaled-zero (negsuc k) = round_same binary64 false 0 (10 ^ suc k) 0 1 (ten-pos (suc k)) (zero-lt-suc 0) (zero-mul 1 ∙ sym (zero-mul (10 ^ suc k))) ∙ zero-plain

-- ---- finite and not minus zero

positive-proper : (t : Bool) (x : Float) → T (positive x) → proper (if t then neg x else x) ≡ true
unfolding proper neg
positive-proper t nan h = absurd h
positive-proper t (inf s) h = absurd h
positive-proper t (fin true m e) h = absurd h
positive-proper true (fin false m e) h = let l = ltb→lt 0 m h in ap not (ne_eqb m 0 (λ z. omega arith))
positive-proper false (fin false m e) h = refl

zero-proper : proper (fin false 0 (pos 0)) ≡ true
unfolding proper
zero-proper = refl

pub signed-proper : (t : Bool) (n : ℕ) (p : ℤ) → n ≤ 2 ^ 53 → inside p ≡ true → proper (signed t n (scaled n p)) ≡ true
unfolding signed
signed-proper true zero p h i = rw (scaled-zero p) zero-proper
signed-proper false zero p h i = rw (scaled-zero p) zero-proper
signed-proper t (suc n) p h i = positive-proper (t && not (eqb (suc n) 0)) (scaled (suc n) p) (scaled-positive (suc n) p (zero-lt-suc n) h i)

none-some : (x : Float) → ◌≡◌ {A = Option Float} none (some x) → ⊥
none-some x h = let z : ◌≡◌ {A = ℕ} 0 1 = cc in omega arith

some_same : (x y : Float) → some x ≡ some y → x ≡ y
some_same x y h = cc

-- ---- the value of a length

-- the length w is in the exact range, and x is its value
pub record Valued (w : List ℕ) (x : Float) : Type 0 where
  pub few : joined_digits w ≤ 2 ^ 53
  pub near : inside (power w) ≡ true
  pub value : signed (is_minus w) (joined_digits w) (scaled (joined_digits w) (power w)) ≡ x

pub length-valued : (w : List ℕ) (x : Float) → length_of w ≡ some x → Valued w x
unfolding length_of measured
length-valued w x h = go (leb (joined_digits w) (2 ^ 53) && inside (power w)) refl h
  where
    n : ℕ
    n = joined_digits w

    v : Float
    v = signed (is_minus w) (joined_digits w) (scaled (joined_digits w) (power w))

    go : (b : Bool) → (leb (joined_digits w) (2 ^ 53) && inside (power w)) ≡ b → (if b then some v else none) ≡ some x → Valued w x
    go true e q = record { few = leb-true n (2 ^ 53) (and_left (leb n (2 ^ 53)) (inside (power w)) e); near = and_right (leb n (2 ^ 53)) (inside (power w)) e; value = some_same v x q }
    go false e q = absurd (none-some x q)

-- "finite and not minus zero"
pub length-proper : (w : List ℕ) (x : Float) → length_of w ≡ some x → proper x ≡ true
length-proper w x h =
    let v = length-valued w x h in
    rw (← v.value) (signed-proper (is_minus w) (joined_digits w) (power w) v.few v.near)

-- it is a double
scaled_fits : (n : ℕ) (p : ℤ) → T (fits binary64 (scaled n p))
unfolding scaled
scaled_fits n (pos k) = round-fits binary64 false (n * 10 ^ k) 1
scaled_fits n (negsuc k) = round-fits binary64 false n (10 ^ suc k)

signed-fits : (t : Bool) (n : ℕ) (x : Float) → T (fits binary64 x) → T (fits binary64 (signed t n x))
unfolding signed
signed-fits t n x h = go (t && not (eqb n 0))
  where
    go : (b : Bool) → T (fits binary64 (if b then neg x else x))
    go true = neg-fits binary64 x h
    go false = h

pub length-fits : (w : List ℕ) (x : Float) → length_of w ≡ some x → T (fits binary64 x)
length-fits w x h =
    let v = length-valued w x h in
    rw (← v.value) (signed-fits (is_minus w) (joined_digits w) (scaled (joined_digits w) (power w)) (scaled_fits (joined_digits w) (power w)))
