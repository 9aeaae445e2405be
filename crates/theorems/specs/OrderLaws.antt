-- The order of finite doubles by value.
--
--   lt_irrefl         no double is below itself
--   lt-asym           of two doubles at most one is below the other
--   lt-not-trans      where y is not below x and z is not below y, z is not below x
use Rattle.std.specs.Prelude.{ℕ, zero, suc, ◌+◌, ◌*◌, ◌<◌, ◌≡◌, refl, Bool, true, false, T, ltb, Float}
use Rattle.std.proofs.Common.{mul-pos, zero-mul, arith, ap, ◌∙◌, ltb-true, ltb-false, le-ltb}
use Rattle.std.proofs.lemmas.Bool.{false≢true}
use Rattle.std.specs.Float.{nan, inf, fin}
use Rattle.std.specs.Float.Ieee.{up, down, lt, below}
use Rattle.std.specs.Float.Ieee.Fits.{down_pos}
use Rattle.std.specs.Float.Ieee.Positive.{through}
use Rattle.std.specs.Float.Ieee.Scale.{finite}

-- ---- of the fractions X / p, Y / q and Z / r, each with its sign

none : (a p : ℕ) → 0 < p → a * p ≡ 0 → a ≡ 0
none zero p P h = refl
none (suc a) p P h = absurd (positive (suc a * p) (mul-pos (omega arith) P) h)
  where
    positive : (k : ℕ) → 0 < k → k ≡ 0 → ⊥
    positive k h e = omega arith

first-zero : (a b : ℕ) → ltb 0 (a + b) ≡ false → a ≡ 0
first-zero a b h = let l = ltb-false 0 (a + b) h in omega arith

second-zero : (a b : ℕ) → ltb 0 (a + b) ≡ false → b ≡ 0
second-zero a b h = let l = ltb-false 0 (a + b) h in omega arith

zero-times : (a p : ℕ) → a ≡ 0 → a * p ≡ 0
zero-times a p h = ap (λ (x : ℕ). x * p) h ∙ zero-mul p

zero-sum : (a b : ℕ) → a ≡ 0 → b ≡ 0 → ltb 0 (a + b) ≡ false
zero-sum a b h k = le-ltb 0 (a + b) (omega arith)

zero-least : (a b : ℕ) → b ≡ 0 → ltb a b ≡ false
zero-least a b h = le-ltb a b (omega arith)

squeezed : (a b : ℕ) → ltb a b ≡ false → a ≡ 0 → b ≡ 0
squeezed a b h k = let l = ltb-false a b h in omega arith

trans : (s t u : Bool) (X p Y q Z r : ℕ) → 0 < p → 0 < q → 0 < r
    → below t (Y * p) s (X * q) ≡ false → below u (Z * q) t (Y * r) ≡ false → below u (Z * p) s (X * r) ≡ false
trans true t false X p Y q Z r P Q R h k = refl
trans false false false X p Y q Z r P Q R h k =
    le-ltb (Z * p) (X * r) (through X Y Z p q r Q (ltb-false (Y * p) (X * q) h) (ltb-false (Z * q) (Y * r) k))
trans false true false X p Y q Z r P Q R h k = zero-least (Z * p) (X * r) (zero-times X r (none X q Q (second-zero (Y * p) (X * q) h)))
trans false false true X p Y q Z r P Q R h k =
    let z = none Z q Q (first-zero (Z * q) (Y * r) k) in
    let y = none Y r R (second-zero (Z * q) (Y * r) k) in
    let x = none X q Q (squeezed (Y * p) (X * q) h (zero-times Y p y)) in
    zero-sum (Z * p) (X * r) (zero-times Z p z) (zero-times X r x)
trans false true true X p Y q Z r P Q R h k =
    let y = none Y p P (first-zero (Y * p) (X * q) h) in
    let x = none X q Q (second-zero (Y * p) (X * q) h) in
    let z = none Z q Q (squeezed (Y * r) (Z * q) k (zero-times Y r y)) in
    zero-sum (Z * p) (X * r) (zero-times Z p z) (zero-times X r x)
trans true true true X p Y q Z r P Q R h k =
    le-ltb (X * r) (Z * p) (through Z Y X r q p Q (ltb-false (Y * r) (Z * q) k) (ltb-false (X * q) (Y * p) h))
trans true false true X p Y q Z r P Q R h k = zero-least (X * r) (Z * p) (zero-times Z p (none Z q Q (first-zero (Z * q) (Y * r) k)))

pub lt-not-trans : (x y z : Float) → T (finite x) → T (finite y) → T (finite z) → lt y x ≡ false → lt z y ≡ false → lt z x ≡ false
unfolding lt
lt-not-trans nan y z f g h a b = absurd f
lt-not-trans (inf s) y z f g h a b = absurd f
lt-not-trans (fin s m e) nan z f g h a b = absurd g
lt-not-trans (fin s m e) (inf t) z f g h a b = absurd g
lt-not-trans (fin s m e) (fin t n d) nan f g h a b = absurd h
lt-not-trans (fin s m e) (fin t n d) (inf u) f g h a b = absurd h
lt-not-trans (fin s m e) (fin t n d) (fin u k c) f g h a b = trans s t u (m * up e) (down e) (n * up d) (down d) (k * up c) (down c) (down_pos e) (down_pos d) (down_pos c) a b

below-asym : (s t : Bool) (A B : ℕ) → below s A t B ≡ true → below t B s A ≡ false
below-asym false false A B h = let l = ltb-true A B h in le-ltb B A (omega arith)
below-asym false true A B h = absurd (false≢true h)
below-asym true false A B h = refl
below-asym true true A B h = let l = ltb-true B A h in le-ltb A B (omega arith)

below_irrefl : (s : Bool) (A : ℕ) → below s A s A ≡ false
below_irrefl true A = le-ltb A A (omega arith)
below_irrefl false A = le-ltb A A (omega arith)

pub lt-asym : (x y : Float) → T (finite x) → T (finite y) → lt x y ≡ true → lt y x ≡ false
unfolding lt
lt-asym nan y f g h = absurd f
lt-asym (inf s) y f g h = absurd f
lt-asym (fin s m e) nan f g h = absurd g
lt-asym (fin s m e) (inf t) f g h = absurd g
lt-asym (fin s m e) (fin t n d) f g h = below-asym s t (m * up e * down d) (n * up d * down e) h

pub lt_irrefl : (x : Float) → T (finite x) → lt x x ≡ false
unfolding lt
lt_irrefl nan f = absurd f
lt_irrefl (inf s) f = absurd f
lt_irrefl (fin s m e) f = below_irrefl s (m * up e * down e)
