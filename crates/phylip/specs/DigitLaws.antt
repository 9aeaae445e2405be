-- The digits of small numbers, one by one. Assumes nothing.
--
--   digits-one                      a number below 10 is its own digit
--   digits_more                     a larger one has those of its tenth, and one more
--   digits-two, digits-three, digits-four     the digits of a number below 100, 1,000 and 10,000
--   digits-short, digits-few        a number below 1,000 has at most 3, one below 10,000 at most 4
use Rattle.std.specs.Prelude.{ℕ, zero, suc, ◌+◌, ◌/◌, ◌%◌, ◌≤◌, ◌<◌, ◌≡◌, refl, ◌⊎◌, Bool, true, false, List, [], ◌∷◌, ◌++◌, ltb, length}
use Rattle.std.proofs.Common.{arith, sym, ap, ◌∙◌, inl, inr, lt-ltb, le-ltb}
use Rattle.theorems.specs.ListLaws.{less-or-not}
use Rattle.trees.specs.Decimal.{digits_from, digits_of}
use Rattle.phylip.specs.Writing.{last_three}

-- ---- enough steps are enough

abbrev digits_by : Bool → ℕ → ℕ → List ℕ
digits_by true f n = (48 + n) ∷ []
digits_by false f n = digits_from f (n / 10) ++ (48 + n % 10) ∷ []

from_step : (f n : ℕ) → digits_from (suc f) n ≡ digits_by (ltb n 10) f n
unfolding digits_from
from_step f n =
    elim (ltb n 10) as (λ b. elim b as (λ _. List ℕ) [ true ↦ (48 + n) ∷ [] | false ↦ digits_from f (n / 10) ++ (48 + n % 10) ∷ [] ] ≡ digits_by b f n) [ true ↦ refl | false ↦ refl ]

from_one : (f n : ℕ) → n < 10 → digits_from (suc f) n ≡ (48 + n) ∷ []
from_one f n h = from_step f n ∙ rw (lt-ltb n 10 h)

from_more : (f n : ℕ) → 10 ≤ n → digits_from (suc f) n ≡ digits_from f (n / 10) ++ (48 + n % 10) ∷ []
from_more f n h = from_step f n ∙ rw (le-ltb n 10 h)

from-same : (f g n : ℕ) → n < f → n < g → digits_from f n ≡ digits_from g n
from-same zero g n h k = absurd (omega arith)
from-same (suc f) zero n h k = absurd (omega arith)
from-same (suc f) (suc g) n h k = go (less-or-not n 10) (λ a. from-same f g (n / 10) (omega arith) (omega arith))
  where
    go : (n < 10) ⊎ (10 ≤ n) → (10 ≤ n → digits_from f (n / 10) ≡ digits_from g (n / 10)) → digits_from (suc f) n ≡ digits_from (suc g) n
    go (inl a) e = from_one f n a ∙ sym (from_one g n a)
    go (inr a) e = from_more f n a ∙ ap (λ (w : List ℕ). w ++ (48 + n % 10) ∷ []) (e a) ∙ sym (from_more g n a)

-- ---- one digit after another

pub digits-one : (n : ℕ) → n < 10 → digits_of n ≡ (48 + n) ∷ []
unfolding digits_of
digits-one n h = from_one n n h

pub digits_more : (n : ℕ) → 10 ≤ n → digits_of n ≡ digits_of (n / 10) ++ (48 + n % 10) ∷ []
unfolding digits_of
digits_more n h =
    from_more n n h ∙ ap (λ (w : List ℕ). w ++ (48 + n % 10) ∷ []) (from-same n (suc (n / 10)) (n / 10) (omega arith) (omega arith))

pub digits-two : (n : ℕ) → 10 ≤ n → n < 100 → digits_of n ≡ (48 + n / 10) ∷ (48 + n % 10) ∷ []
digits-two n h k = digits_more n h ∙ rw (digits-one (n / 10) (omega arith))

pub digits-three : (n : ℕ) → 100 ≤ n → n < 1000 → digits_of n ≡ last_three n
digits-three n h k =
    let e : n / 10 / 10 ≡ n / 100 % 10 = omega arith in
    digits_more n (omega arith) ∙ rw (digits-two (n / 10) (omega arith) (omega arith), e)

pub digits-four : (n : ℕ) → 1000 ≤ n → n < 10000
    → digits_of n ≡ (48 + n / 1000) ∷ last_three n
digits-four n h k =
    let e : n / 10 / 100 % 10 ≡ n / 1000 = omega arith in
    let f : n / 10 / 10 % 10 ≡ n / 100 % 10 = omega arith in
    digits_more n (omega arith) ∙ rw (digits-three (n / 10) (omega arith) (omega arith), e, f)

-- ---- how many

pub digits-short : (n : ℕ) → n < 1000 → length (digits_of n) ≤ 3
digits-short n h = go (less-or-not n 10) (less-or-not n 100)
  where
    go : (n < 10) ⊎ (10 ≤ n) → (n < 100) ⊎ (100 ≤ n) → length (digits_of n) ≤ 3
    go (inl a) b = rw (digits-one n a) (omega arith)
    go (inr a) (inl b) = rw (digits-two n a b) (omega arith)
    go (inr a) (inr b) = rw (digits-three n b h) (omega arith)

pub digits-few : (n : ℕ) → n < 10000 → length (digits_of n) ≤ 4
digits-few n h = go (less-or-not n 1000)
  where
    go : (n < 1000) ⊎ (1000 ≤ n) → length (digits_of n) ≤ 4
    go (inl a) = omega (arith, digits-short n a)
    go (inr a) = rw (digits-four n a h) (omega arith)
