-- Reading the decimal digits of a word one after another.
--
--   decimal-start      behind no digit yet
--   decimal-stop       a byte that is no digit
--   decimal-large      a digit with which the number does not fit
--   decimal-more       a digit more
--   decimal-done       all digits read
use Rattle.std.specs.Prelude.{ℕ, suc, ◌+◌, ◌-◌, ◌*◌, ◌^◌, ◌≤◌, ◌<◌, ◌≡◌, refl, Bool, true, false, ◌&&◌, ◌==◌, List, [], ◌∷◌, ltb, length, if◌then◌else◌, None, Some}
use Rattle.std.specs.Char.{is_ascii_digit}
use Rattle.std.proofs.Common.{arith, add-one, ap, ap₂, sym, ◌∙◌, lt-ltb, le-ltb, eqb-true, get_or, drop, drop-cons}
use Rattle.std.proofs.Math.Option.{none, some}
use Rattle.std.proofs.Math.Seq.{drop-length}
use Rattle.trees.specs.Length.{is_digit}
use Rattle.theorems.specs.ListLaws.{if-true, if-false}
use Rattle.words.specs.Words.{decimal_from, decimal_of}
use Rattle.words.specs.Parsed.{number_of}

pub decimal-none : (w : List ℕ) → (length w == 0) ≡ true → None ≡ number_of (decimal_of w)
unfolding number_of decimal_of
decimal-none [] h = refl
decimal-none (b ∷ w) h = absurd (omega (arith, eqb-true (length (b ∷ w)) 0 h))

pub decimal-start : (w : List ℕ) → (length w == 0) ≡ false → decimal_of w ≡ decimal_from 0 w
unfolding decimal_of
decimal-start [] h = cc
decimal-start (b ∷ w) h = refl

and-false : (t : Bool) → (t && false) ≡ false
and-false true = refl
and-false false = refl

module _ (w : List ℕ) (v i : ℕ) (same : decimal_of w ≡ decimal_from v (drop i w)) where
  module _ (l : i < length w) where
    step : decimal_of w ≡ (if is_digit (get_or w i 0) && ltb (v * 10 + (get_or w i 0 - 48)) (2 ^ 64) then decimal_from (v * 10 + (get_or w i 0 - 48)) (drop (suc i) w) else none)
    unfolding decimal_from
    step = same ∙ ap (decimal_from v) (drop-cons w i 0 l)

    stopped : (is_digit (get_or w i 0) && ltb (v * 10 + (get_or w i 0 - 48)) (2 ^ 64)) ≡ false → None ≡ number_of (decimal_of w)
    unfolding number_of
    stopped q = sym (ap number_of (step ∙ if-false (decimal_from (v * 10 + (get_or w i 0 - 48)) (drop (suc i) w)) none q))

    pub decimal-stop : is_ascii_digit (get_or w i 0) ≡ false → None ≡ number_of (decimal_of w)
    unfolding is_digit
    decimal-stop h = stopped (ap (λ t. t && ltb (v * 10 + (get_or w i 0 - 48)) (2 ^ 64)) h)

    pub decimal-large : 2 ^ 64 ≤ v * 10 + (get_or w i 0 - 48) → None ≡ number_of (decimal_of w)
    decimal-large h = stopped (ap (λ t. is_digit (get_or w i 0) && t) (le-ltb (v * 10 + (get_or w i 0 - 48)) (2 ^ 64) h) ∙ and-false (is_digit (get_or w i 0)))

    pub decimal-more : is_ascii_digit (get_or w i 0) ≡ true → v * 10 + (get_or w i 0 - 48) < 2 ^ 64 → decimal_of w ≡ decimal_from (v * 10 + (get_or w i 0 - 48)) (drop (i + 1) w)
    unfolding is_digit
    decimal-more h f =
        step
        ∙ if-true (decimal_from (v * 10 + (get_or w i 0 - 48)) (drop (suc i) w)) none (ap₂ ◌&&◌ h (lt-ltb (v * 10 + (get_or w i 0 - 48)) (2 ^ 64) f))
        ∙ rw add-one

  pub decimal-done : length w ≤ i → i ≤ length w → Some v ≡ number_of (decimal_of w)
  unfolding number_of decimal_from
  decimal-done h k =
      let e : i ≡ length w = omega arith in
      let f : decimal_from v (drop i w) ≡ some v = rw (e, drop-length w) in
      sym (ap number_of (same ∙ f))
