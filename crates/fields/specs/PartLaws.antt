-- The laws of numbers in two parts, and of digits that do not fit. Assumes nothing.
--
--   put-parts                    a number is put as its lowest bytes and those behind them
--   put-modulo                   what does not fit is dropped
--   number-halves, put-halves    two halves that were read, and two that were put
use Rattle.std.specs.Prelude.{◌≡◌, refl, ℕ, zero, suc, ◌+◌, ◌*◌, ◌/◌, ◌%◌, ◌^◌, ◌<◌, List}
use Rattle.std.proofs.Common.{◌∙◌, zero-lt-suc, add-zero, zero-add, suc-add, mul_comm, pow-suc, div-one, arith}
use Rattle.std.proofs.Math.Nat.{div-div-eq-div-mul}
use Rattle.std.proofs.Math.Arith.{mod-mul}
use Rattle.fields.specs.Field.{number, put}
use Rattle.fields.specs.FieldLaws.{number-parts}

-- a number is put as its lowest j bytes and the k behind them
pub put-parts : (j k : ℕ) (s : List ℕ) (at v : ℕ)
    → put (j + k) s at v ≡ put k (put j s at v) (at + j) (v / 256 ^ j)
unfolding put
put-parts zero k s at v = rw (zero-add k, add-zero at, div-one)
put-parts (suc j) k s at v =
    let e : at + 1 + j ≡ at + suc j = omega arith in
    let q : v / 256 / 256 ^ j ≡ v / 256 ^ suc j =
    rw (pow-suc, mul_comm (256 ^ j) 256) (div-div-eq-div-mul v 256 (256 ^ j)) in
    rw suc-add (put-parts j k _ _ _ ∙ rw (e, q))

power-positive : (k : ℕ) → 0 < 256 ^ k
power-positive zero = zero-lt-suc 0
power-positive (suc k) = let p = power-positive k in rw pow-suc (omega arith)

-- what does not fit the k bytes is dropped
pub put-modulo : (k : ℕ) (s : List ℕ) (at v : ℕ) → put k s at (v % 256 ^ k) ≡ put k s at v
unfolding put
put-modulo zero s at v = refl
put-modulo (suc k) s at v =
    let d : v % 256 ^ suc k ≡ (v / 256 % 256 ^ k) * 256 + v % 256 =
    rw pow-suc (mod-mul v (power-positive k) (zero-lt-suc 255)) in
    let a : v % 256 ^ suc k % 256 ≡ v % 256 = omega arith in
    let b : v % 256 ^ suc k / 256 ≡ v / 256 % 256 ^ k = omega arith in
    rw (a, b, put-modulo k)

-- two halves that were read
pub number-halves : (k : ℕ) (s : List ℕ) (at : ℕ) {a b : ℕ} → a ≡ number k s at → b ≡ number k s (at + k)
    → a + b * 256 ^ k ≡ number (k + k) s at
number-halves k s at {a} {b} p q = rw (number-parts k k, ← p, ← q, mul_comm b)

-- two halves that were put
pub put-halves : (k : ℕ) (s : List ℕ) (at v : ℕ) {t u : List ℕ}
    → t ≡ put k s at (v % 256 ^ k) → u ≡ put k t (at + k) (v / 256 ^ k) → u ≡ put (k + k) s at v
put-halves k s at v {t} {u} p q = q ∙ rw (put-parts k k, p, put-modulo k)
