-- The laws of lengths in bytes. Assumes nothing.
--
--   length_none, length_some, good_none, good-some   what 8 bytes hold, by their number
--   good-at, fits-at     what is read of good bytes is good, and what is read is a double or none
--   Fits x               x is none, or a double
--   length-put           what was put is read
--   length_back          what was read and put again leaves the bytes
--   put-length-length    the list keeps its length
--   put-length-outside, number-put-length-outside, length-put-outside   a byte, a number, a length before or behind is kept
--   length-same, good-same   equal bytes hold equal lengths
use Rattle.std.specs.Prelude.{◌≡◌, ◌⊎◌, ℕ, ◌+◌, ◌^◌, ◌≤◌, ◌<◌, Bool, true, List, T, eqb, length, get_or, if◌then◌else◌}
use Rattle.std.proofs.Math.Path.{ap}
use Rattle.std.proofs.Common.{sym, ◌∙◌, inl, inr, lit<, eq-eqb, ne_eqb}
use Rattle.std.proofs.Math.Bool.{false}
use Rattle.std.proofs.Math.Option.{none, some}
use Rattle.std.specs.Float.Ieee.{binary64, fits, of_bits, to_bits}
use Rattle.std.specs.Float.Ieee.Bits.{to_bits-lt, of_bits-fits}
use Rattle.trees.specs.Value.{Length, proper}
use Rattle.trees.specs.Whole.{good_length}
use Rattle.theorems.specs.ListLaws.{equal_or_not}
use Rattle.theorems.specs.ProperDoubleLaws.{bits_back, no_ones}
use Rattle.fields.specs.Field.{number, put}
use Rattle.fields.specs.FieldLaws.{number_put, number-put-outside, put-length, put-outside}
use Rattle.doubles.specs.Double.{double_at, put_double}
use Rattle.doubles.specs.DoubleLaws.{double-put}
use Rattle.doubles.specs.Stored.{all_ones, length_at, good_length_at, put_length}

-- ---- by the number in the bytes

module _ (s : List ℕ) (at : ℕ) where
  pub length_none : number 8 s at ≡ all_ones → length_at s at ≡ none
  unfolding length_at
  length_none e = rw (eq-eqb (number 8 s at) all_ones e)

  pub length_some : (number 8 s at ≡ all_ones → ⊥) → length_at s at ≡ some (double_at s at)
  unfolding length_at
  length_some f = rw (ne_eqb (number 8 s at) all_ones f)

  pub good_none : number 8 s at ≡ all_ones → good_length_at s at ≡ true
  unfolding good_length_at good_length
  good_none e = rw (length_none e)

  pub good-some : (number 8 s at ≡ all_ones → ⊥) → good_length_at s at ≡ proper (double_at s at)
  unfolding good_length_at good_length
  good-some f = rw (length_some f)

  pub good-at : good_length_at s at ≡ true → good_length (length_at s at) ≡ true
  unfolding good_length_at
  good-at h = h

-- equal bytes hold equal lengths
pub length-same : (s t : List ℕ) (a b : ℕ) → number 8 s a ≡ number 8 t b → length_at s a ≡ length_at t b
unfolding length_at double_at
length-same s t a b e = rw e

pub good-same : (s t : List ℕ) (a b : ℕ) → number 8 s a ≡ number 8 t b → good_length_at s a ≡ good_length_at t b
unfolding good_length_at
good-same s t a b e = ap good_length (length-same s t a b e)

-- ---- what was put is read

unfoldable pub Fits : Length → Type 0
Fits none = Unit
Fits (some x) = T (fits binary64 x)

pub length-put : (s : List ℕ) (at : ℕ) (x : Length) → at + 8 ≤ length s → good_length x ≡ true → Fits x → length_at (put_length s at x) at ≡ x
unfolding put_length good_length Fits
length-put s at none h g f = length_none (put 8 s at all_ones) at (number_put 8 s at all_ones h (lit< tt))
length-put s at (some x) h g f =
    let e : number 8 (put_double s at x) at ≡ to_bits binary64 x = unfold put_double in number_put 8 s at (to_bits binary64 x) h (to_bits-lt binary64 x f) in
    length_some (put_double s at x) at (λ o. no_ones x f g (sym e ∙ o)) ∙ ap some (double-put s at x h f)

-- what is read is a double or none
pub fits-at : (s : List ℕ) (at : ℕ) → Fits (length_at s at)
unfolding length_at double_at
fits-at s at = go (eqb (number 8 s at) all_ones)
  where
    go : (b : Bool) → Fits (if b then none else some (of_bits binary64 (number 8 s at)))
    go true = unfold Fits in tt
    go false = unfold Fits in of_bits-fits binary64 (number 8 s at)

-- what was read and put again leaves the bytes
pub length_back : (s : List ℕ) (at : ℕ) → at + 8 ≤ length s → number 8 s at < 2 ^ 64 → good_length_at s at ≡ true
    → number 8 (put_length s at (length_at s at)) at ≡ number 8 s at
unfolding put_length put_double double_at
length_back s at h l g = go (equal_or_not (number 8 s at) all_ones)
  where
    n : ℕ
    n = number 8 s at

    go : (number 8 s at ≡ all_ones) ⊎ (number 8 s at ≡ all_ones → ⊥) → number 8 (put_length s at (length_at s at)) at ≡ number 8 s at
    go (inl e) = rw (length_none s at e) (number_put 8 s at all_ones h (lit< tt) ∙ sym e)
    go (inr f) =
        let p : to_bits binary64 (of_bits binary64 n) ≡ n = bits_back n l (sym (good-some s at f) ∙ g) in
        rw (length_some s at f, p) (number_put 8 s at n h l)

-- ---- what is kept

module _ (s : List ℕ) (at : ℕ) where
  pub put-length-length : (x : Length) → length (put_length s at x) ≡ length s
  unfolding put_length put_double
  put-length-length none = put-length 8 s at all_ones
  put-length-length (some x) = put-length 8 s at (to_bits binary64 x)

  pub put-length-outside : (x : Length) (i : ℕ) → (i < at) ⊎ (at + 8 ≤ i) → get_or (put_length s at x) i 0 ≡ get_or s i 0
  unfolding put_length put_double
  put-length-outside none i h = put-outside 8 s at all_ones i h
  put-length-outside (some x) i h = put-outside 8 s at (to_bits binary64 x) i h

  pub number-put-length-outside : (k : ℕ) (x : Length) (b : ℕ) → (b + k ≤ at) ⊎ (at + 8 ≤ b) → number k (put_length s at x) b ≡ number k s b
  unfolding put_length put_double
  number-put-length-outside k none b h = number-put-outside k 8 s at all_ones b h
  number-put-length-outside k (some x) b h = number-put-outside k 8 s at (to_bits binary64 x) b h

  pub length-put-outside : (x : Length) (b : ℕ) → (b + 8 ≤ at) ⊎ (at + 8 ≤ b) → length_at (put_length s at x) b ≡ length_at s b
  length-put-outside x b h = length-same (put_length s at x) s b b (number-put-length-outside 8 x b h)
