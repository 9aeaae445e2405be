-- Laws of the sums of constants over a mask's taxa: they are built from the children's sums.
--
--   sum_over-join      over the taxa of two masks with no common bit: the sum of the two sums
--   sum_over-one       over one taxon: its constant
--   sum_over-others    over the other taxa: what is left of the sum over all
use Rattle.std.specs.Prelude.{ℕ, zero, suc, ◌+◌, ◌-◌, ◌*◌, ◌/◌, ◌%◌, ◌^◌, ◌≡◌, refl, List, [], ◌∷◌, get_or}
use Rattle.std.proofs.Common.{arith, pow-suc, mul-zero, mul-one, mul-add, ap, sym, ◌∙◌}
use Rattle.std.specs.Int.Bits.{bit_and, bit_or, bit_xor, and_step, or_step}
use Rattle.std.proofs.lemmas.Nat.{or_shr}
use Rattle.trees.specs.Hash.{sum_over}
use Rattle.theorems.specs.BitLaws.{Sub, dis-and, less-dis, less-or, pow-half}
use Rattle.theorems.specs.MaskLaws.{others-xor}

pub sum_over-zero : (cs : List ℕ) → sum_over cs 0 ≡ 0
unfolding sum_over
sum_over-zero [] = refl
sum_over-zero (c ∷ cs) = omega (arith, mul-zero c, sum_over-zero cs)

-- ---- two masks with no common bit

half-apart : (a b : ℕ) → bit_and a b ≡ 0 → bit_and (a / 2) (b / 2) ≡ 0
half-apart a b e = omega (arith, and_step a b)

odd-join : (a b : ℕ) → bit_and a b ≡ 0 → bit_or a b % 2 ≡ a % 2 + b % 2
odd-join a b e = omega (arith, and_step a b, or_step a b)

pub sum_over-join : (cs : List ℕ) (a b : ℕ) → bit_and a b ≡ 0 → sum_over cs (bit_or a b) ≡ sum_over cs a + sum_over cs b
unfolding sum_over
sum_over-join [] a b e = refl
sum_over-join (c ∷ cs) a b e =
    let p : c * (bit_or a b % 2) ≡ c * (a % 2) + c * (b % 2) = ap (λ (x : ℕ). c * x) (odd-join a b e) ∙ mul-add c (a % 2) (b % 2) in
    let q : sum_over cs (bit_or a b / 2) ≡ sum_over cs (a / 2) + sum_over cs (b / 2) = ap (sum_over cs) (or_shr a b 1) ∙ sum_over-join cs (a / 2) (b / 2) (half-apart a b e) in
    omega (arith, p, q)

-- ---- one taxon

pub sum_over-one : (cs : List ℕ) (i : ℕ) → sum_over cs (2 ^ i) ≡ get_or cs i 0
unfolding sum_over
sum_over-one [] i = refl
sum_over-one (c ∷ cs) zero = omega (arith, mul-one c, sum_over-zero cs)
sum_over-one (c ∷ cs) (suc i) =
    let e = pow-suc 2 i in
    let z : 2 ^ suc i % 2 ≡ 0 = omega arith in
    let p : c * (2 ^ suc i % 2) ≡ 0 = ap (λ (x : ℕ). c * x) z ∙ mul-zero c in
    omega (arith, p, ap (sum_over cs) (pow-half i) ∙ sum_over-one cs i)

-- ---- the other taxa of r

pub sum_over-others : (cs : List ℕ) (r x : ℕ) → Sub x r → sum_over cs x + sum_over cs (r - x) ≡ sum_over cs r
sum_over-others cs r x h =
    ap (λ (y : ℕ). sum_over cs x + sum_over cs y) (others-xor r x h)
    ∙ sym (sum_over-join cs x (bit_xor r x) (dis-and x (bit_xor r x) (less-dis r x h)))
    ∙ ap (sum_over cs) (less-or r x h)
