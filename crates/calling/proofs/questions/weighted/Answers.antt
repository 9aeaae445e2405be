-- A distance that is given is no NaN.
use Rattle.std.proofs.Common.{sym}
use Rattle.theorems.specs.SizeLaws.{plus-number}
use Rattle.answers.specs.Answers.{weight_given}
use Rattle.comparing.specs.NumberLaws.{weighted-number}
use Rattle.calling.proofs.questions.weighted.Goals as goal

pub float_to_bits-result : goal.float_to_bits-result
unfolding weight_given
float_to_bits-result c = plus-number _ (weighted-number _ _ _ _ (sym c.in_ok-x.ensures))
