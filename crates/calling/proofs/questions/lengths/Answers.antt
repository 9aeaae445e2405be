-- Lengths that are given are no NaN.
use Rattle.std.proofs.Common.{sym}
use Rattle.answers.specs.Answers.{sums_given, split_lengths_given}
use Rattle.table.specs.NumberLaws.{lengths-numbers}
use Rattle.calling.proofs.questions.lengths.Goals as goal

pub float_to_bits-shortest : goal.float_to_bits-shortest
unfolding split_lengths_given sums_given
float_to_bits-shortest c = (lengths-numbers _ _ _ (sym c.in_ok-x.ensures)).0

pub float_to_bits-longest : goal.float_to_bits-longest
unfolding split_lengths_given sums_given
float_to_bits-longest c = (lengths-numbers _ _ _ (sym c.in_ok-x.ensures)).1

pub float_to_bits-sum : goal.float_to_bits-sum
unfolding split_lengths_given sums_given
float_to_bits-sum c = (lengths-numbers _ _ _ (sym c.in_ok-x.ensures)).2
