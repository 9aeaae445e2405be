-- Numbers in decimal digits: what is written reads back, and how long it is.
--
--   digit-above, digit-below     a digit is a byte from "0" to "9"
--   digits-digit         each byte of a number in digits is a digit
--   digits_are           a number in digits is one digit or more
--   digits_number        a number in digits is worth that number
--   digits-few           a number below 10 ^ k has at most k digits, k being 1 or more
--   digits-three         a number below 1,000 has at most three
--   digits-fewest        no digits that are worth a number are fewer than those that are written of it
--   Worth most w v       the bytes w are digits that are worth v, which is no more than `most`
--   worth-in             what is read of bytes is what they are worth; where nothing is read, they are worth no number that is allowed
--   worth-read           digits that are worth v are read as v, leading zeros or not
--   digits-worth, digits-read     so a number in digits is read as that number, where it is no more than `most`
use Rattle.std.specs.Prelude.{ℕ, zero, suc, ◌+◌, ◌-◌, ◌*◌, ◌/◌, ◌%◌, ◌^◌, ◌≤◌, ◌<◌, ◌≡◌, refl, true, ◌&&◌, List, [], ◌∷◌, ◌++◌, ltb, length}
use Rattle.std.proofs.Common.{zero-lt-suc, mul-one, one-mul, mul_assoc, mul-le-mul_right, pow-suc, div-lt_iff_lt-mul, mod-lt, arith, sym, ◌∙◌, length-append}
use Rattle.std.proofs.Math.Nat.{pow-succ'}
use Rattle.std.proofs.Math.Path.{ap}
use Rattle.std.proofs.Math.Bool.{true≢false}
use Rattle.std.proofs.Math.Option.{Option, none, some}
use Rattle.std.proofs.Math.Dec.{leb}
use borrow.Author.Tests.{ltb-true, ltb-false, leb-true, le-leb}
use Rattle.trees.specs.Plain.{every}
use Rattle.trees.specs.Length.{is_digit, is_digits}
use Rattle.trees.specs.Value.{number_from}
use Rattle.trees.specs.Decimal.{digits_from, digits_of, number_in}
use Rattle.theorems.specs.ListLaws.{every_append, by-elim, by-test, if-true, and_left, and_right, and-true}

-- ---- digits

module _ (b : ℕ) (e : is_digit b ≡ true) where
  pub digit-above : 48 ≤ b
  unfolding is_digit
  digit-above = leb-true 48 b (and_left (leb 48 b) (leb b 57) e)

  pub digit-below : b ≤ 57
  unfolding is_digit
  digit-below = leb-true b 57 (and_right (leb 48 b) (leb b 57) e)

is_digit_lem : (n : ℕ) → n < 10 → is_digit (48 + n) ≡ true
unfolding is_digit
is_digit_lem n h = and-true (le-leb 48 (48 + n) (omega arith)) (le-leb (48 + n) 57 (omega arith))

-- ---- a number in digits

one-digit : (n : ℕ) → n < 10 → every is_digit ((48 + n) ∷ []) ≡ true
unfolding every
one-digit n h = and-true (is_digit_lem n h) refl

from-digit : (f n : ℕ) → every is_digit (digits_from f n) ≡ true
unfolding digits_from every
from-digit zero n = refl
from-digit (suc f) n =
    by-elim (λ (w : List ℕ). every is_digit w ≡ true) (ltb n 10) (λ e. one-digit n (ltb-true n 10 e))
    (λ e. every_append is_digit (digits_from f (n / 10)) ((48 + n % 10) ∷ []) (from-digit f (n / 10)) (one-digit (n % 10) (mod-lt n (zero-lt-suc 9))))

pub digits-digit : (n : ℕ) → every is_digit (digits_of n) ≡ true
unfolding digits_of
digits-digit n = from-digit (suc n) n

some-digits : (w : List ℕ) → 0 < length w → every is_digit w ≡ true → is_digits w ≡ true
unfolding is_digits
some-digits [] h e = absurd (omega arith)
some-digits (b ∷ w) h e = e

from_some : (f n : ℕ) → 0 < length (digits_from (suc f) n)
unfolding digits_from
from_some f n =
    by-elim (λ (w : List ℕ). 0 < length w) (ltb n 10) (λ e. omega arith)
    (λ e. omega (arith, length-append (digits_from f (n / 10)) ((48 + n % 10) ∷ [])))

pub digits_are : (n : ℕ) → is_digits (digits_of n) ≡ true
unfolding digits_of
digits_are n = some-digits (digits_of n) (from_some n n) (digits-digit n)

-- ---- what it is worth

number_append : (m : ℕ) (u v : List ℕ) → number_from m (u ++ v) ≡ number_from (number_from m u) v
unfolding number_from
number_append m [] v = refl
number_append m (b ∷ u) v = number_append (10 * m + (b - 48)) u v

last-digit : (m d : ℕ) → number_from m ((48 + d) ∷ []) ≡ 10 * m + d
unfolding number_from
last-digit m d = omega arith

from-number : (f n : ℕ) → n < f → number_from 0 (digits_from f n) ≡ n
unfolding digits_from
from-number zero n h = absurd (omega arith)
from-number (suc f) n h =
    by-elim (λ (w : List ℕ). number_from 0 w ≡ n) (ltb n 10) (λ e. last-digit 0 n ∙ omega arith)
    (λ e. let l = ltb-false n 10 e in
    number_append 0 (digits_from f (n / 10)) ((48 + n % 10) ∷ [])
    ∙ last-digit (number_from 0 (digits_from f (n / 10))) (n % 10)
    ∙ omega (arith, from-number f (n / 10) (omega arith)))

pub digits_number : (n : ℕ) → number_from 0 (digits_of n) ≡ n
unfolding digits_of
digits_number n = from-number (suc n) n (omega arith)

-- ---- how many digits

from-few : (f n k : ℕ) → n < 10 ^ suc k → length (digits_from f n) ≤ suc k
unfolding digits_from
from-few zero n k h = omega arith
from-few (suc f) n k h =
    by-elim (λ (w : List ℕ). length w ≤ suc k) (ltb n 10) (λ e. omega arith)
    (λ e. go k h (ltb-false n 10 e) (from-few f (n / 10)))
  where
    go : (k : ℕ) → n < 10 ^ suc k → 10 ≤ n → ((k : ℕ) → n / 10 < 10 ^ suc k → length (digits_from f (n / 10)) ≤ suc k) → length (digits_from f (n / 10) ++ (48 + n % 10) ∷ []) ≤ suc k
    go zero h l ih = absurd (omega arith)
    go (suc k) h l ih =
        omega (arith, length-append (digits_from f (n / 10)) ((48 + n % 10) ∷ []), ih k ((div-lt_iff_lt-mul (zero-lt-suc 9)).1 (rw pow-suc at h)))

pub digits-few : (n k : ℕ) → n < 10 ^ suc k → length (digits_of n) ≤ suc k
unfolding digits_of
digits-few n k h = from-few (suc n) n k h

-- the digits w behind the number m
number-most : (w : List ℕ) (m : ℕ) → every is_digit w ≡ true → number_from m w < suc m * 10 ^ length w
unfolding number_from every
number-most [] m e = omega (arith, mul-one (suc m))
number-most (b ∷ w) m e =
    let d = digit-below b (and_left (is_digit b) (every is_digit w) e) in
    let one : suc (10 * m + (b - 48)) * 10 ^ length w ≤ suc m * 10 * 10 ^ length w = mul-le-mul_right (10 ^ length w) (omega arith) in
    let same : suc m * 10 * 10 ^ length w ≡ suc m * 10 ^ suc (length w) = mul_assoc (suc m) 10 (10 ^ length w) ∙ ap (λ (n : ℕ). suc m * n) (sym (pow-succ' 10 (length w))) in
    omega (arith, number-most w (10 * m + (b - 48)) (and_right (is_digit b) (every is_digit w) e), one, same)

-- no leading zeros are written
pub digits-fewest : (w : List ℕ) → is_digits w ≡ true → length (digits_of (number_from 0 w)) ≤ length w
unfolding is_digits
digits-fewest [] e = absurd (true≢false (sym e))
digits-fewest (b ∷ w) e = digits-few (number_from 0 (b ∷ w)) (length w) (omega (arith, number-most (b ∷ w) 0 e, one-mul (10 ^ suc (length w))))

pub digits-three : (n : ℕ) → n < 1000 → length (digits_of n) ≤ 3
digits-three n h = digits-few n 2 h

-- ---- reading

pub record Worth (most : ℕ) (w : List ℕ) (v : ℕ) : Type 0 where
  pub are-digits : is_digits w ≡ true
  pub number : number_from 0 w ≡ v
  pub no_more : v ≤ most

abbrev pub WorthIn : ℕ → List ℕ → Option ℕ → Type 0
WorthIn most w none = (v : ℕ) → Worth most w v → ⊥
WorthIn most w (some v) = Worth most w v

module _ (most : ℕ) (w : List ℕ) where
  pub worth-in : WorthIn most w (number_in most w)
  unfolding number_in
  worth-in =
      by-test (WorthIn most w) (is_digits w && leb (number_from 0 w) most)
      (λ e. record { are-digits = and_left (is_digits w) _ e; number = refl; no_more = leb-true _ _ (and_right (is_digits w) _ e) })
      (λ e v x. true≢false (sym (and-true x.are-digits (le-leb (number_from 0 w) most (omega (arith, x.number, x.no_more)))) ∙ e))

  pub worth-read : (v : ℕ) → Worth most w v → number_in most w ≡ some v
  unfolding number_in
  worth-read v x =
      if-true (some (number_from 0 w)) none (and-true x.are-digits (le-leb (number_from 0 w) most (omega (arith, x.number, x.no_more)))) ∙ ap some x.number

pub digits-worth : (most n : ℕ) → n ≤ most → Worth most (digits_of n) n
digits-worth most n h = record { are-digits = digits_are n; number = digits_number n; no_more = h }

pub digits-read : (most n : ℕ) → n ≤ most → number_in most (digits_of n) ≡ some n
digits-read most n h = worth-read most (digits_of n) n (digits-worth most n h)
