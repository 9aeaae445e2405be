-- The lengths of the inner nodes, each at the place of its split: as words.
--
--   ReadWord x          x is the word of a length that was read, or of none
--   unset               the word at a place where no length has come yet
--   together_words x y   the word of both lengths together
--   with_word x y        the word at a place where x stands, with one more length
--   slot_word xs         the word at a place to which the lengths xs have come
--   words_at .. m j      of the first j nodes, the words of those with the side m
--   placed_words         the words at the places of the splits ms
--   Placeable           what is asked of the first j nodes
use Rattle.std.specs.Prelude.{◌≡◌, ℕ, zero, suc, ◌^◌, ◌<◌, ◌≤◌, true, List, [], ◌∷◌, ◌++◌, map, length, ◌==◌, slice_index, if◌then◌else◌}
use Rattle.std.proofs.Math.Option.{Option}
use Rattle.std.specs.Float.{binary64}
use Rattle.std.specs.Float.Ieee.{add, to_bits, of_bits}
use Rattle.trees.specs.Mask.{side, proper}
use Rattle.trees.specs.Lengths.{value_of}
use Rattle.theorems.specs.ListLaws.{Mem}
use Rattle.theorems.specs.RisingLaws.{Rising}
use Rattle.doubles.specs.Stored.{all_ones}
use Rattle.newick.specs.Words.{word_of}
use Rattle.newick.specs.Chains.{span_mask}

abbrev pub ReadWord : ℕ → Type 0
ReadWord x = (e : Option (List ℕ)) × (x ≡ word_of (value_of e))

-- the bits of minus zero, which no length has
abbrev pub unset : ℕ
unset = 0x8000_0000_0000_0000

-- "the sum of both lengths, or none if either has none"
unfoldable pub together_words : ℕ → ℕ → ℕ
unfolding add to_bits of_bits
together_words x y =
    if x == all_ones then all_ones
    else if y == all_ones then all_ones
    else to_bits binary64 (add binary64 (of_bits binary64 x) (of_bits binary64 y))

unfoldable pub with_word : ℕ → ℕ → ℕ
unfolding together_words
with_word x y = if x == unset then y else together_words x y

unfoldable pub slot_word : List ℕ → ℕ
unfolding together_words
slot_word [] = unset
slot_word (x ∷ []) = x
slot_word (x ∷ y ∷ xs) = together_words x y

-- over n taxa: the spans of the nodes in l, over the running sums s, and the words of their lengths in v
unfoldable pub words_at : ℕ → List ℕ → List ℕ → List ℕ → ℕ → ℕ → List ℕ
unfolding side
words_at n s l v m zero = []
words_at n s l v m (suc j) = if side n (span_mask s l j) == m then words_at n s l v m j ++ (slice_index v j ∷ []) else words_at n s l v m j

abbrev pub placed_words : ℕ → List ℕ → List ℕ → List ℕ → List ℕ → ℕ → List ℕ
placed_words n s l v ms j = map (λ m. slot_word (words_at n s l v m j)) ms

-- their splits are among ms, no more than two have the same, and each has a length that was read, or none
pub record Placeable (n : ℕ) (s l v ms : List ℕ) (j : ℕ) : Type 0 where
  pub small : (i : ℕ) → i < j → span_mask s l i < 2 ^ n
  pub rises : Rising ms
  pub counts : (m : ℕ) → Mem m ms → proper n m ≡ true
  pub has : (i : ℕ) → i < j → proper n (side n (span_mask s l i)) ≡ true → Mem (side n (span_mask s l i)) ms
  pub twice : (m : ℕ) → length (words_at n s l v m j) ≤ 2
  pub words : (i : ℕ) → i < j → ReadWord (slice_index v i)
