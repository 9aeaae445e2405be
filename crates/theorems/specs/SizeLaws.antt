-- Laws of the sizes of doubles, and of what rounding gives.
--
--   round-size, round-plus     rounding goes by the size, and what has no minus sign gets none
--   round_number, round-none   what is rounded is a number, and 0 is rounded to plus zero
--   size-of-plus, plus-number  a double without a minus sign is its size, and a number
--   sub-size                   a difference has the same size both ways round
--   add-plus, add-number       sums of doubles without a minus sign have none, and a number and a finite double give a number
use Prim.Native.Nat.{ℕ, zero, suc, ◌+◌, ◌-◌, ◌*◌, ◌^◌, ◌≤◌, ◌<◌}
use Rattle.std.proofs.Common.{add_comm, mul_comm, zero-mul, arith, ◌∙◌, ltb-true, ltb-false}
use Rattle.std.specs.Prelude.{◌≡◌, Bool, not, ◌&&◌, T, ltb, ℤ, Float}
use Rattle.std.proofs.Math.Path.{refl, sym, ap}
use Rattle.std.proofs.Math.Bool.{true, false, cond}
use Rattle.std.specs.Bool.{beq}
use Rattle.std.proofs.lemmas.Bool.{false≢true}
use Rattle.std.specs.Float.{nan, inf, fin, Format, binary64}
use Rattle.std.specs.Float.Ieee.{prec, low, emax, up, down, odd, units, round, sum, add, sub, is_nan}
use Rattle.std.specs.Float.Ieee.Fits.{round_is}
use Rattle.std.specs.Float.Ieee.Scale.{round_same, finite}
use Rattle.trees.specs.Sums.{plus_zero}
use Rattle.theorems.specs.Size.{size, plus}

-- ---- what is rounded

odd-size : (d : ℕ) (s : Bool) (q k l : ℕ) → size (odd d s q k l) ≡ odd d false q k l
unfolding odd size
odd-size d s zero k l = refl
odd-size d s (suc q) k l = refl

units-size : (f : Format) (s : Bool) (q k : ℕ) → size (units f s q k) ≡ units f false q k
unfolding units
units-size f s q k = go (ltb (q * 2 ^ k) (2 ^ (low f + suc (emax f))))
  where
    go : (b : Bool) → size (cond b (odd (suc (prec f)) s q k (low f)) (inf s)) ≡ cond b (odd (suc (prec f)) false q k (low f)) (inf false)
    go true = odd-size (suc (prec f)) s q k (low f)
    go false = unfold size in refl

pub round-size : (f : Format) (s : Bool) (a c : ℕ) → size (round f s a c) ≡ round f false a c
round-size f s a c = ap size (round_is f s a c) ∙ units-size f s _ _ ∙ sym (round_is f false a c)

-- what holds of every number with a sign holds of what is rounded with it
module _ (P : Float → Type 0) (s : Bool) (finite : (m : ℕ) (e : ℤ) → P (fin s m e)) (infinite : P (inf s)) where
  of-odd : (d q k l : ℕ) → P (odd d s q k l)
  unfolding odd
  of-odd d zero k l = finite _ _
  of-odd d (suc q) k l = finite _ _

  of-units : (f : Format) (q k : ℕ) → P (units f s q k)
  unfolding units
  of-units f q k = go (ltb (q * 2 ^ k) (2 ^ (low f + suc (emax f))))
    where
      go : (b : Bool) → P (cond b (odd (suc (prec f)) s q k (low f)) (inf s))
      go true = of-odd (suc (prec f)) q k (low f)
      go false = infinite

  of-rounded : (f : Format) (a c : ℕ) → P (round f s a c)
  of-rounded f a c = rw (round_is f s a c) (of-units f _ _)

pub round-plus : (f : Format) (a c : ℕ) → plus (round f false a c) ≡ true
unfolding plus
round-plus f a c = of-rounded (λ x. plus x ≡ true) false (λ m e. refl) refl f a c

pub round_number : (f : Format) (s : Bool) (a c : ℕ) → T (not (is_nan (round f s a c)))
unfolding is_nan
round_number f s a c = of-rounded (λ x. T (not (is_nan x))) s (λ m e. tt) tt f a c

pub round-none : (c : ℕ) → 0 < c → round binary64 false 0 c ≡ plus_zero
round-none c h = round_same binary64 false 0 c 0 1 h (omega arith) (zero-mul 1 ∙ sym (zero-mul c)) ∙ unfold round in refl

-- ---- without a minus sign

pub size-of-plus : (x : Float) → plus x ≡ true → size x ≡ x
unfolding plus size
size-of-plus nan h = refl
size-of-plus (inf true) h = absurd (false≢true h)
size-of-plus (inf false) h = refl
size-of-plus (fin true m e) h = absurd (false≢true h)
size-of-plus (fin false m e) h = refl

pub plus-number : (x : Float) → plus x ≡ true → T (not (is_nan x))
unfolding plus is_nan
plus-number nan h = absurd (false≢true h)
plus-number (inf s) h = tt
plus-number (fin s m e) h = tt

pub add-plus : (x y : Float) → plus x ≡ true → plus y ≡ true → plus (add binary64 x y) ≡ true
unfolding plus add sum
add-plus nan y h k = absurd (false≢true h)
add-plus (inf true) y h k = absurd (false≢true h)
add-plus (fin true m e) y h k = absurd (false≢true h)
add-plus (inf false) nan h k = absurd (false≢true k)
add-plus (inf false) (inf true) h k = absurd (false≢true k)
add-plus (inf false) (inf false) h k = refl
add-plus (inf false) (fin s n d) h k = refl
add-plus (fin false m e) nan h k = absurd (false≢true k)
add-plus (fin false m e) (inf s) h k = k
add-plus (fin false m e) (fin true n d) h k = absurd (false≢true k)
add-plus (fin false m e) (fin false n d) h k = round-plus binary64 (m * up e * down d + n * up d * down e) (down e * down d)

-- ---- numbers

either_number : (b : Bool) (x y : Float) → T (not (is_nan x)) → T (not (is_nan y)) → T (not (is_nan (cond b x y)))
either_number true x y h k = h
either_number false x y h k = k

sum_number : (f : Format) (s : Bool) (a : ℕ) (t : Bool) (b c : ℕ) → T (not (is_nan (sum f s a t b c)))
unfolding sum
sum_number f s a t b c =
    either_number (beq s t) _ _ (round_number f s (a + b) c) (either_number (ltb a b) _ _ (round_number f t (b - a) c) (round_number f (s && ltb b a) (a - b) c))

pub add-number : (t x : Float) → T (not (is_nan t)) → T (finite x) → T (not (is_nan (add binary64 t x)))
unfolding add is_nan
add-number nan x h k = absurd h
add-number (inf s) nan h k = absurd k
add-number (inf s) (inf t) h k = absurd k
add-number (inf s) (fin t n d) h k = tt
add-number (fin s m e) nan h k = absurd k
add-number (fin s m e) (inf t) h k = absurd k
add-number (fin s m e) (fin t n d) h k = sum_number binary64 s (m * up e * down d) t (n * up d * down e) (down e * down d)

-- ---- the size of a difference

module _ (f : Format) (a b c : ℕ) where
  -- of two numbers with one sign
  apart-size : (s : Bool) → size (sum f s a (not s) b c) ≡ cond (ltb a b) (round f false (b - a) c) (round f false (a - b) c)
  unfolding sum
  apart-size true = go (ltb a b)
    where
      go : (t : Bool) → size (cond t (round f false (b - a) c) (round f (ltb b a) (a - b) c)) ≡ cond t (round f false (b - a) c) (round f false (a - b) c)
      go true = round-size f false (b - a) c
      go false = round-size f (ltb b a) (a - b) c
  apart-size false = go (ltb a b)
    where
      go : (t : Bool) → size (cond t (round f true (b - a) c) (round f false (a - b) c)) ≡ cond t (round f false (b - a) c) (round f false (a - b) c)
      go true = round-size f true (b - a) c
      go false = round-size f false (a - b) c

  apart-sym : cond (ltb a b) (round f false (b - a) c) (round f false (a - b) c) ≡ cond (ltb b a) (round f false (a - b) c) (round f false (b - a) c)
  apart-sym = go (ltb a b) (ltb b a) refl refl
    where
      none : b ≤ a → a ≤ b → a - b ≡ b - a
      none h k = omega arith

      go : (t u : Bool) → ltb a b ≡ t → ltb b a ≡ u → cond t (round f false (b - a) c) (round f false (a - b) c) ≡ cond u (round f false (a - b) c) (round f false (b - a) c)
      go true true p q = absurd (omega (arith, ltb-true a b p, ltb-true b a q))
      go true false p q = refl
      go false true p q = refl
      go false false p q = ap (λ (x : ℕ). round f false x c) (none (ltb-false a b p) (ltb-false b a q))

sum-size : (f : Format) (s : Bool) (a : ℕ) (t : Bool) (b c : ℕ) → size (sum f s a (not t) b c) ≡ size (sum f t b (not s) a c)
sum-size f true a true b c = apart-size f a b c true ∙ apart-sym f a b c ∙ sym (apart-size f b a c true)
sum-size f false a false b c = apart-size f a b c false ∙ apart-sym f a b c ∙ sym (apart-size f b a c false)
sum-size f true a false b c = unfold sum in round-size f true (a + b) c ∙ ap (λ (x : ℕ). round f false x c) (add_comm a b) ∙ sym (round-size f false (b + a) c)
sum-size f false a true b c = unfold sum in round-size f false (a + b) c ∙ ap (λ (x : ℕ). round f false x c) (add_comm a b) ∙ sym (round-size f true (b + a) c)

pub sub-size : (x y : Float) → T (finite x) → T (finite y) → size (sub binary64 x y) ≡ size (sub binary64 y x)
unfolding sub
sub-size nan y h k = absurd h
sub-size (inf s) y h k = absurd h
sub-size (fin s m e) nan h k = absurd k
sub-size (fin s m e) (inf t) h k = absurd k
sub-size (fin s m e) (fin t n d) h k =
    sum-size binary64 s (m * up e * down d) t (n * up d * down e) (down e * down d)
    ∙ ap (λ (c : ℕ). size (sum binary64 t (n * up d * down e) (not s) (m * up e * down d) c)) (mul_comm (down e) (down d))
