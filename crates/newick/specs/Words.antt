-- A length as a word.
--
--   most_lengths       the words of 64 lengths, which no tree's splits exceed
--   word_of x          the 64 bits of the double, or all ones for none
--   with_words xs v    the words v with those of the lengths xs at their front
use Rattle.std.specs.Prelude.{ℕ, List, ◌++◌, map, length, drop}
use Rattle.std.proofs.Math.Option.{none, some}
use Rattle.std.specs.Float.{binary64}
use Rattle.std.specs.Float.Ieee.{to_bits}
use Rattle.trees.specs.Value.{Length}
use Rattle.doubles.specs.Stored.{all_ones}

abbrev pub most_lengths : ℕ
most_lengths = 64

-- no length that is read has all ones as its bits
unfoldable pub word_of : Length → ℕ
unfolding to_bits
word_of none = all_ones
word_of (some x) = to_bits binary64 x

abbrev pub with_words : List Length → List ℕ → List ℕ
with_words xs v = map word_of xs ++ drop (length xs) v
