-- The laws of numbers that stand for others. Assumes nothing.
--
--   near-more, near-full                one digit more
--   near-measured, near-power           which one stands for the whole number, or for the exponent, makes no difference
--   power-up, power_below, power-down   an exponent less the digits behind the point
--   far-down                            an exponent below -22 is outside the exact range
use Rattle.std.specs.Prelude.{ℕ, zero, suc, ◌+◌, ◌-◌, ◌*◌, ◌^◌, ◌≤◌, ◌<◌, ◌≡◌, Bool, true, false, ℤ, pos, negsuc, ◌-ℤ◌}
use Rattle.std.proofs.Common.{arith, sym, ap, ◌∙◌, lt-ltb, le-ltb}
use Rattle.trees.specs.Value.{with_sign, inside, measured}
use Rattle.theorems.specs.ValueLaws.{measured-large, measured-far, outside-up, outside-down}
use Rattle.lengths.specs.Near.{Near, exactly, beyond}

pub near-more : (m n d : ℕ) → n ≤ 2 ^ 60 → Near m n → Near (10 * m + d) (10 * n + d)
near-more m n d h (exactly e) = exactly (omega arith)
near-more m n d h (beyond k l) = absurd (omega arith)

pub near-full : (m n d : ℕ) → 2 ^ 60 < n → Near m n → Near (10 * m + d) n
near-full m n d h (exactly e) = beyond (omega arith) h
near-full m n d h (beyond k l) = beyond (omega arith) l

pub near-measured : (t : Bool) (m n : ℕ) (p : ℤ) → Near m n → measured t m p ≡ measured t n p
near-measured t m n p (exactly e) = ap (λ (x : ℕ). measured t x p) e
near-measured t m n p (beyond h k) = measured-large t m p (omega arith) ∙ sym (measured-large t n p (omega arith))

-- ---- an exponent less the digits behind the point

pub power-up : (x d : ℕ) → d ≤ x → with_sign false x -ℤ pos d ≡ pos (x - d)
power-up x zero h = ap pos (omega arith)
power-up x (suc d) h = rw (le-ltb x (suc d) h)

pub power_below : (x d : ℕ) → x < d → with_sign false x -ℤ pos d ≡ negsuc (d - x - 1)
power_below x zero h = absurd (omega arith)
power_below x (suc d) h = rw (lt-ltb x (suc d) h) (ap negsuc (omega arith))

pub power-down : (x d : ℕ) → 0 < x + d → with_sign true x -ℤ pos d ≡ negsuc (x + d - 1)
power-down zero zero h = absurd (omega arith)
power-down zero (suc d) h = rw (lt-ltb 0 (suc d) (omega arith)) (ap negsuc (omega arith))
power-down (suc x) zero h = rw (lt-ltb 0 (suc x) (omega arith)) (ap negsuc (omega arith))
power-down (suc x) (suc d) h = ap negsuc (omega arith)

pub far-down : (x d : ℕ) → 22 < x → inside (with_sign true x -ℤ pos d) ≡ false
far-down x d h = rw (power-down x d (omega arith)) (outside-down (x + d - 1) (omega arith))

far : (u : Bool) (y d : ℕ) → 2 ^ 60 < y → d < 2 ^ 59 → inside (with_sign u y -ℤ pos d) ≡ false
far true y d h k = far-down y d (omega arith)
far false y d h k = rw (power-up y d (omega arith)) (outside-up (y - d) (omega arith))

pub near-power : (t u : Bool) (n x y d : ℕ) → d < 2 ^ 59 → Near y x → measured t n (with_sign u y -ℤ pos d) ≡ measured t n (with_sign u x -ℤ pos d)
near-power t u n x y d h (exactly e) = ap (λ (z : ℕ). measured t n (with_sign u z -ℤ pos d)) e
near-power t u n x y d h (beyond k l) = measured-far t n (with_sign u y -ℤ pos d) (far u y d k h) ∙ sym (measured-far t n (with_sign u x -ℤ pos d) (far u x d l h))
