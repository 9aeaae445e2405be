-- `weighing::first_sum` meets its contract. Assumes nothing.
use mathlib.Core.Path.{refl}
use lib.Ieee.{of_bits}
use Rattle.trees.specs.Sums.{sums}
use Rattle.answers.specs.Answers.{sums_given}
use Rattle.weighing.proofs.first_sum.Goals as goal

pub returns : goal.returns
unfolding sums_given sums of_bits
returns c = refl
