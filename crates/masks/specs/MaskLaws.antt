-- Laws of masks, over words of k bits for every k: what the operations on a word make of a mask.
--
--   shift_one          taxon i alone is the first taxon, i places up
--   and-not            what is not in b is what is in the word's other bits
--   two_none, two-less whether a mask has two taxa: one is left without the lowest
--   proper-odd         no split that counts has taxon 0 on its side
--   proper-few         nor fewer than two taxa there
--   proper-outside     nor a taxon beyond the n
--   proper-wide        where n is above the word's width, that is all
--   proper-others      else the others are two taxa too
--   trailing-lowest    the smallest taxon is the number of zeros below the lowest one
--   trailing_lt        that number is below the word's width
--   lowest-none        the smallest taxon, of no taxa
use Rattle.std.specs.Prelude.{ℕ, zero, suc, ◌+◌, ◌-◌, ◌*◌, ◌/◌, ◌%◌, ◌^◌, ◌≤◌, ◌<◌, min, ◌≡◌, refl, true, false, not, ◌⊎◌, leb, eqb}
use Rattle.std.proofs.Math.Path.{sym}
use Rattle.std.proofs.Common.{ap, ◌∙◌, inl, inr, ⊎_elim, pow-suc, one-mul, lt_of_lt_of_le, arith, pow_mono, shl_exact}
use Rattle.std.proofs.Math.Bool.{and-true, and-false}
use Rattle.std.proofs.Math.Arith.{bin_ind}
use Rattle.std.proofs.Math.Pow.{pow_pos}
use Rattle.std.specs.Int.Bits.{bit_and, and_step, and_self}
use Rattle.std.specs.Int.Count.{ones, ones_step, count_trailing_zeros}
use Rattle.std.proofs.lemmas.Nat.{ones-le}
use borrow.Author.Tests.{leb-true, eq-eqb, ne_eqb, lt-ltb, le-ltb, le-leb, lt-leb}
use Rattle.trees.specs.Mask.{every_taxon, without, proper, lowest_from, lowest}
use Rattle.theorems.specs.ListLaws.{less-or-not, equal_or_not}
use Rattle.theorems.specs.BitLaws.{even_odd}
use Rattle.theorems.specs.OnesLaws.{ones-zero, ones_pos, ones-part}
use Rattle.theorems.specs.MaskLaws.{below_sub, others-xor}
use Rattle.theorems.specs.ProperLaws.{proper-ones, every-ones}

-- ---- shifts

pub shift_one : (k i : ℕ) → i < k → 1 * 2 ^ i % 2 ^ k ≡ 2 ^ i
shift_one k i h = shl_exact 1 i k (omega arith) (omega arith) ∙ one-mul (2 ^ i)

-- ---- without

digit-parts : (p q r : ℕ) → p < 2 → q + r ≡ 1 → min p q + min p r ≡ p
digit-parts p q r h e = omega arith

number-parts : (x y p q s t a : ℕ) → s ≡ x * 2 + p → t ≡ y * 2 + q → x + y ≡ a / 2 → p + q ≡ a % 2 → s + t ≡ a
number-parts x y p q s t a d e f g = omega arith

and-not-and : (k a b : ℕ) → a < 2 ^ k → b < 2 ^ k → bit_and a (2 ^ k - 1 - b) + bit_and a b ≡ a
and-not-and zero a b ha hb = let z : a ≡ 0 = omega arith in rw z
and-not-and (suc k) a b ha hb =
    let p = pow-suc 2 k in
    let x : ℕ = 2 ^ suc k - 1 - b in
    let h : x / 2 ≡ 2 ^ k - 1 - b / 2 = omega arith in
    let l : x % 2 + b % 2 ≡ 1 = omega arith in
    let i = and-not-and k (a / 2) (b / 2) (omega arith) (omega arith) in
    number-parts _ _ _ _ _ _ a (and_step a x ∙ rw h) (and_step a b) i (digit-parts (a % 2) (x % 2) (b % 2) (omega arith) l)

pub and-not : (k a b : ℕ) → a < 2 ^ k → b < 2 ^ k → bit_and a (2 ^ k - 1 - b) ≡ without a b
unfolding without
and-not k a b ha hb = omega (arith, and-not-and k a b ha hb)

-- ---- two taxa

-- a mask without its lowest taxon
less-odd : (m : ℕ) → m % 2 ≡ 1 → bit_and m (m - 1) ≡ m / 2 * 2
less-odd m e =
    let h : (m - 1) / 2 ≡ m / 2 = omega arith in
    let z : min (m % 2) ((m - 1) % 2) ≡ 0 = omega arith in
    let s : bit_and m (m - 1) ≡ bit_and (m / 2) (m / 2) * 2 + min (m % 2) ((m - 1) % 2) = and_step m (m - 1) ∙ rw h in
    omega (arith, and_self (m / 2))

less-even : (m : ℕ) → 0 < m → m % 2 ≡ 0 → bit_and m (m - 1) ≡ bit_and (m / 2) (m / 2 - 1) * 2
less-even m p e =
    let h : (m - 1) / 2 ≡ m / 2 - 1 = omega arith in
    let z : min (m % 2) ((m - 1) % 2) ≡ 0 = omega arith in
    let s : bit_and m (m - 1) ≡ bit_and (m / 2) (m / 2 - 1) * 2 + min (m % 2) ((m - 1) % 2) = and_step m (m - 1) ∙ rw h in
    omega arith

-- what is left is empty exactly where there was one taxon
pub less_none : (m : ℕ) → 0 < m → bit_and m (m - 1) ≡ 0 → ones m ≡ 1
less_none = bin_ind (λ (m : ℕ). 0 < m → bit_and m (m - 1) ≡ 0 → ones m ≡ 1) (λ h q. absurd (omega arith)) (λ m ih h q. go m ih h q (even_odd m))
  where
    go : (m : ℕ) → (0 < m / 2 → bit_and (m / 2) (m / 2 - 1) ≡ 0 → ones (m / 2) ≡ 1) → 0 < m → bit_and m (m - 1) ≡ 0
        → (m % 2 ≡ 0) ⊎ (m % 2 ≡ 1) → ones m ≡ 1
    go m ih h q (inl e) =
        let d = less-even m h e in
        omega (arith, ones_step m, ih (omega arith) (omega arith))
    go m ih h q (inr e) =
        let d = less-odd m e in
        let z : m / 2 ≡ 0 = omega arith in
        let o : ones (m / 2) ≡ 0 = ap ones z ∙ ones-zero in
        omega (arith, ones_step m)

pub less-some : (m : ℕ) → (bit_and m (m - 1) ≡ 0 → ⊥) → 2 ≤ ones m
less-some = bin_ind (λ (m : ℕ). (bit_and m (m - 1) ≡ 0 → ⊥) → 2 ≤ ones m) (λ q. absurd (q refl)) (λ m ih q. go m ih q (even_odd m))
  where
    go : (m : ℕ) → ((bit_and (m / 2) (m / 2 - 1) ≡ 0 → ⊥) → 2 ≤ ones (m / 2)) → (bit_and m (m - 1) ≡ 0 → ⊥)
        → (m % 2 ≡ 0) ⊎ (m % 2 ≡ 1) → 2 ≤ ones m
    go m ih q (inl e) =
        let p : m ≡ 0 → ⊥ = λ z. q (rw z) in
        let d = less-even m (omega (arith, p)) e in
        omega (arith, ones_step m, ih (λ z. q (omega arith)))
    go m ih q (inr e) =
        let d = less-odd m e in
        let p : m / 2 ≡ 0 → ⊥ = λ z. q (omega arith) in
        omega (arith, ones_step m, ones_pos (m / 2) (omega (arith, p)))

pub two_none : leb 2 (ones 0) ≡ false
two_none = lt-leb 2 (ones 0) (omega (arith, ones-zero))

pub two-less : (m : ℕ) → 0 < m → not (eqb (bit_and m (m - 1)) 0) ≡ leb 2 (ones m)
two-less m h =
    ⊎_elim
    (λ (e : bit_and m (m - 1) ≡ 0). rw (eq-eqb _ _ e) (sym (lt-leb 2 (ones m) (omega (arith, less_none m h e)))))
    (λ (e : bit_and m (m - 1) ≡ 0 → ⊥). rw (ne_eqb _ _ e) (sym (le-leb 2 (ones m) (less-some m e))))
    (equal_or_not (bit_and m (m - 1)) 0)

-- ---- proper

-- an even mask lacks a taxon
even-ones : (k m : ℕ) → m % 2 ≡ 0 → m < 2 ^ suc k → ones m ≤ k
even-ones k m e h = omega (arith, ones_step m, ones-le k (m / 2) (omega (arith, pow-suc 2 k)))

-- the taxa of a mask and the others
others-ones : (n m : ℕ) → m < 2 ^ n → ones m + ones (every_taxon n - m) ≡ n
others-ones n m h =
    let s = below_sub n m h in
    rw (others-xor (every_taxon n) m s) (ones-part m (every_taxon n) s ∙ every-ones n)

module _ (n m : ℕ) where
  pub proper-odd : (m % 2 ≡ 0 → ⊥) → proper n m ≡ false
  proper-odd h = proper-ones n m ∙ simp (ne_eqb _ _ h)

  pub proper-few : leb 2 (ones m) ≡ false → proper n m ≡ false
  proper-few h = proper-ones n m ∙ rw h (and-false (eqb (m % 2) 0))

  pub proper-outside : every_taxon n < m → proper n m ≡ false
  unfolding every_taxon
  proper-outside h =
      proper-ones n m
      ∙ rw (le-ltb m (2 ^ n) (omega arith), and-false (leb (ones m) (n - 2)), and-false (leb 2 (ones m))) (and-false (eqb (m % 2) 0))

  module _ (e : m % 2 ≡ 0) (t : leb 2 (ones m) ≡ true) where
    pub proper-wide : (k : ℕ) → m < 2 ^ suc k → suc k < n → proper n m ≡ true
    proper-wide k h l =
        let o = even-ones k m e h in
        proper-ones n m
        ∙ simp (eq-eqb _ _ e, t, le-leb (ones m) (n - 2) (omega arith), lt-ltb _ _ (lt_of_lt_of_le h (pow_mono {i = suc k} {j = n} (omega arith))))

    rest-two : m < 2 ^ n → leb 2 (ones (every_taxon n - m)) ≡ leb (ones m) (n - 2)
    rest-two h =
        let o = others-ones n m h in
        let l = leb-true 2 (ones m) t in
        ⊎_elim
        (λ (f : ones (every_taxon n - m) < 2). lt-leb _ _ f ∙ sym (lt-leb (ones m) (n - 2) (omega arith)))
        (λ (f : 2 ≤ ones (every_taxon n - m)). le-leb _ _ f ∙ sym (le-leb (ones m) (n - 2) (omega arith)))
        (less-or-not (ones (every_taxon n - m)) 2)

    pub proper-others : m ≤ every_taxon n → leb 2 (ones (every_taxon n - m)) ≡ proper n m
    unfolding every_taxon
    proper-others h =
        let l : m < 2 ^ n = omega (arith, pow_pos n) in
        rest-two l ∙ sym (proper-ones n m ∙ simp (eq-eqb _ _ e, t, lt-ltb m (2 ^ n) l, and-true (leb (ones m) (n - 2))))

-- ---- lowest

below_power : (m : ℕ) → m < 2 ^ m
below_power zero = omega arith
below_power (suc m) = omega (arith, pow-suc 2 m, below_power m)

from-trailing : (f i m : ℕ) → lowest_from f i m ≡ i + count_trailing_zeros f m
unfolding lowest_from count_trailing_zeros
from-trailing zero i m = omega arith
from-trailing (suc f) i m =
    ⊎_elim
    (λ (e : m % 2 ≡ 0). rw (e, lowest_from) (omega (arith, from-trailing f (suc i) (m / 2))))
    (λ (e : m % 2 ≡ 1). rw (e, lowest_from) (omega arith))
    (even_odd m)

trailing-enough : (k j m : ℕ) → 0 < m → m < 2 ^ k → m < 2 ^ j → count_trailing_zeros k m ≡ count_trailing_zeros j m
unfolding count_trailing_zeros
trailing-enough zero j m h p q = absurd (omega arith)
trailing-enough (suc k) zero m h p q = absurd (omega arith)
trailing-enough (suc k) (suc j) m h p q =
    ⊎_elim
    (λ (e : m % 2 ≡ 0).
    rw e (ap suc (trailing-enough k j (m / 2) (omega arith) (omega (arith, pow-suc 2 k)) (omega (arith, pow-suc 2 j)))))
    (λ (e : m % 2 ≡ 1). rw e)
    (even_odd m)

pub trailing_lt : (k m : ℕ) → m < 2 ^ k → 0 < m → count_trailing_zeros k m < k
unfolding count_trailing_zeros
trailing_lt zero m p h = absurd (omega arith)
trailing_lt (suc k) m p h =
    ⊎_elim
    (λ (e : m % 2 ≡ 0). let l : m / 2 < 2 ^ k = omega (arith, pow-suc 2 k) in rw e (omega (arith, trailing_lt k (m / 2) l (omega arith))))
    (λ (e : m % 2 ≡ 1). rw e (omega arith))
    (even_odd m)

pub trailing-lowest : (k m : ℕ) → m < 2 ^ k → 0 < m → count_trailing_zeros k m ≡ lowest m
unfolding lowest
trailing-lowest k m p h = trailing-enough k m m h p (below_power m) ∙ omega (arith, from-trailing m 0 m)

pub lowest-none : lowest 0 ≡ 0
unfolding lowest lowest_from
lowest-none = refl
