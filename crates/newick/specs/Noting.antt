-- The lengths that stand in a text, by its symbols from left to right.
--
--   Fine c ss           the symbols ss have no stray one, and behind each colon stands a length; c: whether a colon stands before them
--   lengths_in c ss      these lengths, in order
--   is_exact w           the length w is in the exact range
--   noted i c n l ss    the words l with the lengths behind closing brackets noted in order, from place n on; i: whether the last node that
--                       ended before ss is an inner one, noted just before place n
--   is_stop b            the byte b is a colon, a closing bracket, a comma or a quote
--   Passed s i j        from i up to j stands nothing that is noted
--   NextStop s i j      j is the first place from i on where such a byte stands
--   MeasuredBehind      the length behind a colon
--   LengthsNoted        all of them
use Rattle.std.specs.Prelude.{◌≡◌, ℕ, suc, ◌-◌, ◌<◌, ◌≤◌, Bool, true, false, ◌||◌, List, [], ◌∷◌, length, ◌==◌, slice_index, slice_set, if◌then◌else◌, Option, None, Some}
use Rattle.trees.specs.Plain.{every, byte}
use Rattle.trees.specs.Text.{apostrophe, Symbol, open_bracket, close_bracket, comma, colon, stray, token, symbols}
use Rattle.trees.specs.Length.{is_length}
use Rattle.trees.specs.Value.{length_of}
use Rattle.trees.specs.Lengths.{is_given}
use Rattle.text.specs.Read.{symbols_at}
use Rattle.doubles.specs.Stored.{all_ones}
use Rattle.newick.specs.Words.{word_of}

unfoldable pub Fine : Bool → List Symbol → Type 0
unfolding is_length
Fine false [] = Unit
Fine false (open_bracket ∷ r) = Fine false r
Fine false (close_bracket ∷ r) = Fine false r
Fine false (comma ∷ r) = Fine false r
Fine false (colon ∷ r) = Fine true r
Fine false (stray ∷ r) = ⊥
Fine false (token w ∷ r) = Fine false r
Fine true [] = ⊥
Fine true (open_bracket ∷ r) = ⊥
Fine true (close_bracket ∷ r) = ⊥
Fine true (comma ∷ r) = ⊥
Fine true (colon ∷ r) = ⊥
Fine true (stray ∷ r) = ⊥
Fine true (token w ∷ r) = (is_length w ≡ true) × Fine false r

unfoldable pub lengths_in : Bool → List Symbol → List (List ℕ)
lengths_in c [] = []
lengths_in c (open_bracket ∷ r) = lengths_in false r
lengths_in c (close_bracket ∷ r) = lengths_in false r
lengths_in c (comma ∷ r) = lengths_in false r
lengths_in c (colon ∷ r) = lengths_in true r
lengths_in c (stray ∷ r) = lengths_in false r
lengths_in false (token w ∷ r) = lengths_in false r
lengths_in true (token w ∷ r) = w ∷ lengths_in false r

abbrev pub is_exact : List ℕ → Bool
is_exact w = is_given (length_of w)

-- a closing bracket has no length until a colon comes; a comma comes before a leaf, whose length is not noted
unfoldable pub noted : Bool → Bool → ℕ → List ℕ → List Symbol → List ℕ
unfolding word_of length_of
noted i c n l [] = l
noted i c n l (open_bracket ∷ r) = noted i false n l r
noted i c n l (close_bracket ∷ r) = noted true false (suc n) (slice_set l n all_ones) r
noted i c n l (comma ∷ r) = noted false false n l r
noted i c n l (colon ∷ r) = noted i true n l r
noted i c n l (stray ∷ r) = noted i false n l r
noted i false n l (token w ∷ r) = noted i false n l r
noted i true n l (token w ∷ r) = noted i false n (if i then slice_set l (n - 1) (word_of (length_of w)) else l) r

unfoldable pub is_stop : ℕ → Bool
is_stop b = b == (byte ":") || (b == (byte ")") || (b == (byte ",") || b == apostrophe))

-- brackets that open, blanks, and labels or the rest of one
pub record Passed (s : List ℕ) (i j : ℕ) : Type 0 where
  pub past : i ≤ j
  pub within : j ≤ length s
  pub fine : Fine false (symbols_at s j)
  pub words : (k : Bool) (n : ℕ) (l : List ℕ) → noted k false n l (symbols_at s j) ≡ noted k false n l (symbols_at s i)
  pub lengths : lengths_in false (symbols_at s j) ≡ lengths_in false (symbols_at s i)

pub record NextStop (s : List ℕ) (i j : ℕ) : Type 0 where
  pub passed : Passed s i j
  pub stop : j < length s → is_stop (slice_index s j) ≡ true

-- the length w from i up to j, and its word
pub record MeasuredAt (s : List ℕ) (i j x : ℕ) : Type 0 where
  pub length-token : List ℕ
  pub symbol : symbols_at s i ≡ token length-token ∷ symbols_at s j
  pub exact : is_exact length-token ≡ true
  pub word : x ≡ word_of (length_of length-token)
  pub past : i < j
  pub within : j ≤ length s

unfoldable pub MeasuredBehind : List ℕ → ℕ → Option (ℕ × ℕ) → Type 0
MeasuredBehind s i None = (w : List ℕ) × (r : List Symbol) × (symbols_at s i ≡ token w ∷ r) × (is_exact w ≡ false)
MeasuredBehind s i (Some (j, x)) = MeasuredAt s i j x

-- "any length in the text outside the exact range", or the words of all inner nodes
pub record LengthsNoted (s l : List ℕ) (r : Bool) (l' : List ℕ) : Type 0 where
  pub exact : r ≡ every is_exact (lengths_in false (symbols s))
  pub words : r ≡ true → l' ≡ noted false false 0 l (symbols s)
