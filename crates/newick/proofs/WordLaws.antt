-- Lengths as words: what two come to, and what stands at the place of a split.
--
--   Read, value_read  a length that was read
--   word_set          its word is not that of no length yet
--   together-words    the word of both is that of their sum, or of none
--   pattern-here, number-here     words of lengths may be made doubles, and their sum bits
--   with-unset, with_none, with-absent, with-both     one more length, by what stands there
--   with-one-more     and what stands there then
--   slot-summed       what the lengths of a split's edges come to
use Rattle.std.proofs.Common.{◌≡◌, ℕ, ◌<◌, ◌≤◌, false, not, T, eqb, ◌⊎◌, List, [], ◌∷◌, ◌++◌, map, length, sym, refl, ap, ◌∙◌, subst, ap₂, ⊎_elim, arith, length-append, eq-eqb, ne_eqb}
use mathlib.Core.Bool.{false≢true}
use mathlib.Core.Option.{Option, none, some}
use lib.Ieee.{Float, binary64, add, to_bits, of_bits, nan_bits, is_nan}
use lib.Ieee.Bits.{of_bits-to_bits}
use Rattle.trees.specs.Value.{Length, length_of, proper}
use Rattle.trees.specs.Lengths.{value_of, together, summed}
use Rattle.theorems.specs.ListLaws.{if-true, if-false}
use Rattle.theorems.specs.LengthSumLaws.{Moderate, length-moderate, add-proper}
use Rattle.theorems.specs.ProperDoubleLaws.{proper-number, proper-pattern, no_ones}
use Rattle.doubles.specs.Stored.{all_ones}
use Rattle.newick.specs.Words.{word_of}
use Rattle.newick.specs.Placing.{ReadWord, unset, together_words, with_word, slot_word}

-- a length that was read, or none
abbrev pub Read : Length → Type 0
Read none = Unit {0}
Read (some x) = Moderate x

pub value_read : (e : Option (List ℕ)) → Read (value_of e)
value_read none = tt
value_read (some w) = go (length_of w) refl
  where
    go : (x : Length) → length_of w ≡ x → Read x
    go none e = tt
    go (some x) e = length-moderate w x e

-- ---- words that no length has

no-unset : (x : Float) → Moderate x → to_bits binary64 x ≡ unset → ⊥
no-unset x m e = false≢true (sym improper ∙ ap proper (sym (ap (of_bits binary64) e) ∙ of_bits-to_bits binary64 x m.fits) ∙ m.proper)
  where
    improper : proper (of_bits binary64 unset) ≡ false
    improper = unfold proper of_bits in refl

pub word_set : (x : Length) → Read x → word_of x ≡ unset → ⊥
unfolding word_of
word_set none r e = omega arith
word_set (some x) r e = no-unset x r e

-- ---- two lengths

module _ (x y : Float) (p : Moderate x) (q : Moderate y) where
  there : (z : Float) → Moderate z → eqb (to_bits binary64 z) all_ones ≡ false
  there z m = ne_eqb (to_bits binary64 z) all_ones (no_ones z m.fits m.proper)

  both_words : together_words (to_bits binary64 x) (to_bits binary64 y) ≡ to_bits binary64 (add binary64 x y)
  unfolding together_words
  both_words =
      if-false all_ones _ (there x p) ∙ if-false all_ones _ (there y q)
      ∙ ap₂ (λ (a b : Float). to_bits binary64 (add binary64 a b)) (of_bits-to_bits binary64 x p.fits) (of_bits-to_bits binary64 y q.fits)

  first_word : together_words (to_bits binary64 x) all_ones ≡ all_ones
  unfolding together_words
  first_word = if-false all_ones all_ones (there x p)

second_word : (y : ℕ) → together_words all_ones y ≡ all_ones
unfolding together_words
second_word y = refl

pub together-words : (x y : Length) → Read x → Read y → together_words (word_of x) (word_of y) ≡ word_of (together x y)
unfolding word_of together
together-words none y p q = second_word (word_of y)
together-words (some x) none p q = first_word x x p p
together-words (some x) (some y) p q = both_words x y p q

-- ---- what the code may do with words of lengths

word-pattern : (x : Length) → Read x → (word_of x ≡ all_ones → ⊥) → T (not (nan_bits binary64 (word_of x)))
unfolding word_of
word-pattern none p f = absurd (f refl)
word-pattern (some x) p f = proper-pattern (to_bits binary64 x) (ap proper (of_bits-to_bits binary64 x p.fits) ∙ p.proper)

sum_number : (x y : Length) → Read x → Read y → (word_of x ≡ all_ones → ⊥) → (word_of y ≡ all_ones → ⊥) → T (not (is_nan (add binary64 (of_bits binary64 (word_of x)) (of_bits binary64 (word_of y)))))
unfolding word_of
sum_number none y p q f g = absurd (f refl)
sum_number (some x) none p q f g = absurd (g refl)
sum_number (some x) (some y) p q f g =
    proper-number (add binary64 (of_bits binary64 (to_bits binary64 x)) (of_bits binary64 (to_bits binary64 y)))
    (ap₂ (λ (a b : Float). proper (add binary64 a b)) (of_bits-to_bits binary64 x p.fits) (of_bits-to_bits binary64 y q.fits) ∙ add-proper x y p q)

-- a word where a length has come
pub word-here : (x : ℕ) → (x ≡ unset) ⊎ ReadWord x → (x ≡ unset → ⊥) → ReadWord x
word-here x r f = ⊎_elim (λ e. absurd (f e)) (λ q. q) r

pub pattern-here : (x : ℕ) → ReadWord x → (x ≡ all_ones → ⊥) → T (not (nan_bits binary64 x))
pattern-here x r f = subst (λ (y : ℕ). T (not (nan_bits binary64 y))) (sym r.1) (word-pattern (value_of r.0) (value_read r.0) (λ e. f (r.1 ∙ e)))

pub number-here : (x y : ℕ) → ReadWord x → ReadWord y → (x ≡ all_ones → ⊥) → (y ≡ all_ones → ⊥) → T (not (is_nan (add binary64 (of_bits binary64 x) (of_bits binary64 y))))
number-here x y r q f g =
    rw (r.1, q.1) (sum_number (value_of r.0) (value_of q.0) (value_read r.0) (value_read q.0) (λ e. f (r.1 ∙ e)) (λ e. g (q.1 ∙ e)))

module _ (x y : ℕ) where
  pub with-unset : x ≡ unset → y ≡ with_word x y
  unfolding with_word
  with-unset e = sym (if-true y (together_words x y) (eq-eqb x unset e))

  module _ (f : x ≡ unset → ⊥) where
    with_two : together_words x y ≡ with_word x y
    unfolding with_word
    with_two = sym (if-false y (together_words x y) (ne_eqb x unset f))

    pub with_none : x ≡ all_ones → all_ones ≡ with_word x y
    unfolding together_words
    with_none e = sym (if-true all_ones _ (eq-eqb x all_ones e)) ∙ with_two

    module _ (g : x ≡ all_ones → ⊥) where
      pub with-absent : y ≡ all_ones → all_ones ≡ with_word x y
      unfolding together_words
      with-absent e = sym (if-false all_ones _ (ne_eqb x all_ones g) ∙ if-true all_ones _ (eq-eqb y all_ones e)) ∙ with_two

      pub with-both : (y ≡ all_ones → ⊥) → to_bits binary64 (add binary64 (of_bits binary64 x) (of_bits binary64 y)) ≡ with_word x y
      unfolding together_words
      with-both h = sym (if-false all_ones _ (ne_eqb x all_ones g) ∙ if-false all_ones _ (ne_eqb y all_ones h)) ∙ with_two

-- ---- one more length at a place

pub with-one-more : (xs : List ℕ) (y : ℕ) → length (xs ++ (y ∷ [])) ≤ 2 → ((x : ℕ) → xs ≡ x ∷ [] → x ≡ unset → ⊥) → with_word (slot_word xs) y ≡ slot_word (xs ++ (y ∷ []))
unfolding with_word slot_word
with-one-more [] y h f = refl
with-one-more (x ∷ []) y h f = if-false y _ (ne_eqb x unset (f x refl))
with-one-more (x ∷ z ∷ xs) y h f = absurd (omega (arith, length-append xs (y ∷ [])))

-- ---- the lengths of a split's edges

abbrev pub AllRead : List Length → Type 0
AllRead [] = Unit {0}
AllRead (x ∷ xs) = Read x × AllRead xs

pub slot-summed : (xs : List Length) → AllRead xs → 0 < length xs → slot_word (map word_of xs) ≡ word_of (summed xs)
unfolding slot_word summed
slot-summed [] r h = absurd (omega arith)
slot-summed (x ∷ []) r h = refl
slot-summed (x ∷ y ∷ xs) r h = together-words x y r.0 r.1.0
