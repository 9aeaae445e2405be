-- Laws of the gap between two lengths, which are finite and not minus zero.
--
--   proper-finite     such a length is finite
--   gap-plus          a gap is plus zero or above it
--   gap-size          "the size of each difference": it is the rounded difference without its sign
--   gap-sym           it is the same both ways round
--   gap-self          it is plus zero for a length and itself
use Rattle.std.specs.Prelude.{ℕ, zero, suc, ◌+◌, ◌-◌, ◌*◌, ◌≤◌, ◌<◌, ◌≡◌, refl, Bool, true, false, not, cond, T, ltb, ℤ, Float}
use Rattle.std.proofs.Common.{mul-pos, arith, sym, ◌∙◌, ltb-true, ltb-false, le-ltb}
use Rattle.std.proofs.Math.Nat.{sub_self as sub_same}
use Rattle.std.proofs.lemmas.Bool.{false≢true}
use Rattle.std.specs.Float.{nan, inf, fin, Format}
use Rattle.std.specs.Float.Ieee.{binary64, up, down, round, sum, sub, lt, below}
use Rattle.std.specs.Float.Ieee.Fits.{up_pos, down_pos}
use Rattle.std.specs.Float.Ieee.Scale.{finite}
use Rattle.trees.specs.Value.{proper}
use Rattle.trees.specs.Sums.{plus_zero}
use Rattle.trees.specs.Weighted.{gap}
use Rattle.theorems.specs.ListLaws.{by-test}
use Rattle.theorems.specs.Size.{size, plus}
use Rattle.theorems.specs.SizeLaws.{round-plus, round-none, size-of-plus, sub-size}

pub proper-finite : (x : Float) → proper x ≡ true → T (finite x)
unfolding proper
proper-finite nan h = absurd (false≢true h)
proper-finite (inf s) h = absurd (false≢true h)
proper-finite (fin s m e) h = tt

-- a minus sign stands before no zero
no-minus-zero : (s : Bool) (m : ℕ) (e : ℤ) → proper (fin s m e) ≡ true → s ≡ true → 0 < m
unfolding proper
no-minus-zero false m e h q = absurd (false≢true q)
no-minus-zero true zero e h q = absurd (false≢true h)
no-minus-zero true (suc m) e h q = omega arith

-- ---- the larger less the smaller

-- of ±a below ±b
lower-plus : (f : Format) (s : Bool) (a : ℕ) (t : Bool) (b c : ℕ) → below s a t b ≡ true → plus (sum f t b (not s) a c) ≡ true
unfolding sum
lower-plus f false a false b c h = let l = ltb-true a b h in rw (le-ltb b a (omega arith)) (round-plus f (b - a) c)
lower-plus f false a true b c h = absurd (false≢true h)
lower-plus f true a false b c h = round-plus f (b + a) c
lower-plus f true a true b c h = rw h (round-plus f (a - b) c)

-- of ±a not below ±b, and not minus zero
higher-plus : (f : Format) (s : Bool) (a : ℕ) (t : Bool) (b c : ℕ) → (s ≡ true → 0 < a) → below s a t b ≡ false → plus (sum f s a (not t) b c) ≡ true
unfolding sum
higher-plus f false a false b c z h = rw h (round-plus f (a - b) c)
higher-plus f false a true b c z h = round-plus f (a + b) c
higher-plus f true a false b c z h = absurd (no-sum (z refl) (ltb-false 0 (a + b) h))
  where
    no-sum : 0 < a → a + b ≤ 0 → ⊥
    no-sum p q = omega arith
higher-plus f true a true b c z h = rw h (go (ltb a b))
  where
    go : (t : Bool) → plus (cond t (round f false (b - a) c) (round f false (a - b) c)) ≡ true
    go true = round-plus f (b - a) c
    go false = round-plus f (a - b) c

less-plus : (x y : Float) → T (finite x) → T (finite y) → lt x y ≡ true → plus (sub binary64 y x) ≡ true
unfolding sub lt
less-plus nan y f g h = absurd f
less-plus (inf s) y f g h = absurd f
less-plus (fin s m e) nan f g h = absurd g
less-plus (fin s m e) (inf t) f g h = absurd g
less-plus (fin s m e) (fin t n d) f g h = lower-plus binary64 s (m * up e * down d) t (n * up d * down e) (down d * down e) h

not-less-plus : (x y : Float) → proper x ≡ true → T (finite y) → lt x y ≡ false → plus (sub binary64 x y) ≡ true
unfolding sub lt
not-less-plus nan y f g h = absurd (proper-finite nan f)
not-less-plus (inf s) y f g h = absurd (proper-finite (inf s) f)
not-less-plus (fin s m e) nan f g h = absurd g
not-less-plus (fin s m e) (inf t) f g h = absurd g
not-less-plus (fin s m e) (fin t n d) f g h =
    higher-plus binary64 s (m * up e * down d) t (n * up d * down e) (down e * down d) (λ r. mul-pos (mul-pos (no-minus-zero s m e f r) (up_pos e)) (down_pos d)) h

module _ (x y : Float) (p : proper x ≡ true) (q : proper y ≡ true) where
  pub gap-plus : plus (gap x y) ≡ true
  unfolding gap
  gap-plus = by-test (λ (z : Float). plus z ≡ true) (lt x y) (less-plus x y (proper-finite x p) (proper-finite y q)) (not-less-plus x y p (proper-finite y q))

  pub gap-size : gap x y ≡ size (sub binary64 x y)
  gap-size = sym (size-of-plus (gap x y) gap-plus) ∙ either
    where
      either : size (gap x y) ≡ size (sub binary64 x y)
      either = unfold gap in by-test (λ (z : Float). size z ≡ size (sub binary64 x y)) (lt x y) (λ h. sub-size y x (proper-finite y q) (proper-finite x p)) (λ h. refl)

pub gap-sym : (x y : Float) → proper x ≡ true → proper y ≡ true → gap x y ≡ gap y x
gap-sym x y p q = gap-size x y p q ∙ sub-size x y (proper-finite x p) (proper-finite y q) ∙ sym (gap-size y x q p)

-- ---- nothing left

sum_self : (s : Bool) (a c : ℕ) → 0 < c → sum binary64 s a (not s) a c ≡ plus_zero
unfolding sum
sum_self true a c h = rw (le-ltb a a (omega arith), sub_same a) (round-none c h)
sum_self false a c h = rw (le-ltb a a (omega arith), sub_same a) (round-none c h)

sub_self : (x : Float) → T (finite x) → sub binary64 x x ≡ plus_zero
unfolding sub
sub_self nan h = absurd h
sub_self (inf s) h = absurd h
sub_self (fin s m e) h = sum_self s (m * up e * down e) (down e * down e) (mul-pos (down_pos e) (down_pos e))

pub gap-self : (x : Float) → proper x ≡ true → gap x x ≡ plus_zero
unfolding gap
gap-self x p = let z = sub_self x (proper-finite x p) in by-test (λ (r : Float). r ≡ plus_zero) (lt x x) (λ h. z) (λ h. z)
