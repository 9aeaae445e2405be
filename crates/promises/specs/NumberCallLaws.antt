-- A weighted distance that a call gives is a number, and a distance, and the lengths of a split are numbers, whatever the lent bytes are. Each
-- theorem is over the call's own `Post`. Assumes nothing.
--
--   IsNumber r          the answer r refuses, or gives a double that is plus zero or above it: no NaN and no minus zero
--   IsZero r            it refuses, or gives plus zero
--   weighted-number     the weighted distance is such an answer. It may be an infinity: whole asks that each length is finite, and somebody
--                       else may have written lengths whose sum is too large for a double
--   weighted-both-ways  it is the same both ways round, and so is a refusal
--   weighted-zero       it is plus zero for trees with the same splits and the same lengths, a tree and itself among them
--   split-lengths-number     the three lengths of a split, where they are given, are no NaN; the sum may be an infinity, as a distance may
use Rattle.std.specs.Prelude.{◌≡◌, true, Float, Result, Ok, Err}
use Rattle.std.proofs.Common.{sym, ◌∙◌}
use Rattle.trees.specs.Sums.{plus_zero}
use Rattle.trees.specs.Questions.{tree_lengths, tree}
use Rattle.theorems.specs.Size.{plus}
use Rattle.answers.specs.Answers.{weight_given, sums_given, split_lengths_given}
use Rattle.layout.specs.Store.{held_at}
use Rattle.comparing.specs.NumberLaws.{weighted-number as asked-number, weighted-both-ways as asked-both-ways, weighted-zero as asked-zero}
use Rattle.comparing.proofs.weighted.Reads as weighted
use Rattle.table.specs.NumberLaws.{AreNumbers, lengths-numbers}
use Rattle.table.proofs.split_lengths.Reads as split-lengths
use Rattle.promises.specs.Once.{AnswerIs, BothWays, arg1, arg2, arg3}
use Rattle.promises.specs.Outcomes.{weight-one}
use Rattle.answers.specs.declared.Refusal.{Refusal}
use Rattle.answers.specs.declared.Lengths.{Lengths}

abbrev pub IsNumber : Result Float Refusal → Type 0
IsNumber (Err r) = Unit {0}
IsNumber (Ok x) = plus x ≡ true

abbrev pub IsZero : Result Float Refusal → Type 0
IsZero (Err r) = Unit {0}
IsZero (Ok x) = x ≡ plus_zero

pub weighted-number : AnswerIs weighted.Post (λ x r. IsNumber r)
unfolding weight_given
weighted-number k x (Err r) y a = tt
weighted-number k x (Ok d) y a = asked-number _ _ _ d (sym a)

pub weighted-both-ways : BothWays weighted.Post
weighted-both-ways k s i j q r y z a b = weight-one q r (a ∙ asked-both-ways s.now i.0 j.0 ∙ sym b)

pub weighted-zero : AnswerIs weighted.Post
    (λ x r. let h = held_at (arg1 x).now in
    tree h (arg2 x).0 ≡ tree h (arg3 x).0 → tree_lengths h (arg2 x).0 ≡ tree_lengths h (arg3 x).0 → IsZero r)
unfolding weight_given
weighted-zero k x (Err r) y a = λ t l. tt
weighted-zero k x (Ok d) y a = λ t l. asked-zero _ _ _ t l d (sym a)

abbrev pub IsNumbers : Result Lengths Refusal → Type 0
IsNumbers (Err r) = Unit {0}
IsNumbers (Ok l) = AreNumbers (sums_given l)

pub split-lengths-number : AnswerIs split-lengths.Post (λ x r. IsNumbers r)
unfolding split_lengths_given
split-lengths-number k x (Err r) y a = tt
split-lengths-number k x (Ok l) y a = lengths-numbers _ _ (sums_given l) (sym a)
