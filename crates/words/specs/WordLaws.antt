-- Reading decimal digits one after another, in a part of a line.
--
--   DecimalRead     what is read of the digits from b up to e, when i has been reached
use Rattle.std.specs.Prelude.{ℕ, suc, ◌+◌, ◌-◌, ◌*◌, ◌^◌, ◌≤◌, ◌<◌, ◌≡◌, refl, Bool, true, false, ◌&&◌, not, List, ◌∷◌, leb, ltb, length, if◌then◌else◌, None, Some}
use native.Mathlib.Omega.{arith}
use Rattle.std.proofs.Common.{add-one, ap₂, ◌∙◌, le-leb, ltb-true}
use Rattle.std.proofs.Math.Path.{ap, sym}
use Rattle.std.proofs.Math.Option.{none}
use Rattle.std.proofs.Math.ListN.{get_or}
use Rattle.std.proofs.Math.Seq.{slice, slice_empty, slice-cons}
use Rattle.std.proofs.lemmas.Bool.{lt-leb, not-true, not-false}
use Rattle.trees.specs.Length.{is_digit}
use Rattle.theorems.specs.ListLaws.{if-true, if-false}
use Rattle.words.specs.Words.{decimal_from, decimal_of}
use Rattle.words.specs.Parsed.{number_of}

-- ---- a byte that is a digit, and one that is none

digit_low : (b : ℕ) → b < 48 → is_digit b ≡ false
unfolding is_digit
digit_low b h = ap (λ t. t && leb b 57) (lt-leb 48 b h)

digit-high : (b : ℕ) → 57 < b → is_digit b ≡ false
unfolding is_digit
digit-high b h = ap (λ t. leb 48 b && t) (lt-leb b 57 h) ∙ go (leb 48 b)
  where
    go : (t : Bool) → (t && false) ≡ false
    go true = refl
    go false = refl

digit-is : (b : ℕ) → 48 ≤ b → b ≤ 57 → is_digit b ≡ true
unfolding is_digit
digit-is b h l = ap₂ ◌&&◌ (le-leb 48 b h) (le-leb b 57 l)

-- ---- the digits from b up to e

pub record DecimalRead (s : List ℕ) (b e v i : ℕ) : Type 0 where
  pub past : b ≤ i
  pub within : i ≤ e
  pub same : decimal_of (slice b e s) ≡ decimal_from v (slice i e s)

module _ (s : List ℕ) (b e : ℕ) (u : e ≤ length s) where
  pub decimal-empty : b ≡ e → None ≡ number_of (decimal_of (slice b e s))
  unfolding number_of decimal_of
  decimal-empty q = sym (ap (λ (x : ℕ). number_of (decimal_of (slice x e s))) q ∙ ap (λ x. number_of (decimal_of x)) (slice_empty e s))

  pub decimal-start : b ≤ e → (b ≡ e → ⊥) → DecimalRead s b e 0 b
  unfolding decimal_of
  decimal-start l n =
      let c : slice b e s ≡ get_or s b 0 ∷ slice (suc b) e s = slice-cons b e s 0 (omega arith) u in
      record { past = omega arith; within = l; same = ap decimal_of c ∙ sym (ap (decimal_from 0) c) }

  module _ (v i : ℕ) (r : DecimalRead s b e v i) (l : i < e) where
    step : decimal_of (slice b e s) ≡ (if is_digit (get_or s i 0) && ltb (v * 10 + (get_or s i 0 - 48)) (2 ^ 64) then decimal_from (v * 10 + (get_or s i 0 - 48)) (slice (suc i) e s) else none)
    unfolding decimal_from
    step = r.same ∙ ap (decimal_from v) (slice-cons i e s 0 l u)

    stopped : (is_digit (get_or s i 0) && ltb (v * 10 + (get_or s i 0 - 48)) (2 ^ 64)) ≡ false → None ≡ number_of (decimal_of (slice b e s))
    unfolding number_of
    stopped q = sym (ap number_of (step ∙ if-false (decimal_from (v * 10 + (get_or s i 0 - 48)) (slice (suc i) e s)) none q))

    pub decimal-low : (d : ℕ) → d ≡ get_or s i 0 → d < 48 → None ≡ number_of (decimal_of (slice b e s))
    decimal-low d q h = stopped (ap (λ t. t && ltb (v * 10 + (get_or s i 0 - 48)) (2 ^ 64)) (digit_low (get_or s i 0) (omega arith)))

    pub decimal-high : (d : ℕ) → d ≡ get_or s i 0 → 57 < d → None ≡ number_of (decimal_of (slice b e s))
    decimal-high d q h = stopped (ap (λ t. t && ltb (v * 10 + (get_or s i 0 - 48)) (2 ^ 64)) (digit-high (get_or s i 0) (omega arith)))

    module _ (d : ℕ) (q : d ≡ get_or s i 0) (lo : 48 ≤ d) (hi : d ≤ 57) (g : Bool) (f : g ≡ ltb (v * 10 + (d - 48)) (2 ^ 64)) where
      both : (is_digit (get_or s i 0) && ltb (v * 10 + (get_or s i 0 - 48)) (2 ^ 64)) ≡ g
      both = ap (λ t. t && ltb (v * 10 + (get_or s i 0 - 48)) (2 ^ 64)) (digit-is (get_or s i 0) (omega arith) (omega arith)) ∙ sym (f ∙ ap (λ (x : ℕ). ltb (v * 10 + (x - 48)) (2 ^ 64)) q)

      pub decimal-large : not g ≡ true → None ≡ number_of (decimal_of (slice b e s))
      decimal-large t = stopped (both ∙ not-true g t)

      pub decimal-more : not g ≡ false → DecimalRead s b e (v * 10 + (d - 48)) (i + 1)
      decimal-more t =
          let p = r.past in
          record {
            past = omega arith;
            within = omega arith;
            same =
                step
                ∙ if-true (decimal_from (v * 10 + (get_or s i 0 - 48)) (slice (suc i) e s)) none (both ∙ not-false g t)
                ∙ ap₂ (λ (x y : ℕ). decimal_from (v * 10 + (x - 48)) (slice y e s)) (sym q) (sym (add-one i));
          }

  pub decimal-done : (v i : ℕ) → DecimalRead s b e v i → e ≤ i → Some v ≡ number_of (decimal_of (slice b e s))
  unfolding number_of decimal_from
  decimal-done v i r l =
      let w = r.within in
      let z : i ≡ e = omega arith in
      sym (ap number_of (r.same ∙ ap (λ (x : ℕ). decimal_from v (slice x e s)) z ∙ ap (decimal_from v) (slice_empty e s)))

pub grown-fits : (x : ℕ) (g : Bool) → g ≡ ltb x (2 ^ 64) → not g ≡ false → x < 2 ^ 64
grown-fits x g e n = ltb-true x (2 ^ 64) (sym e ∙ not-false g n)
