-- `doubles::put_length` meets its contract: no length, or a double. Assumes nothing.
use mathlib.Core.Path.{◌≡◌, subst}
use mathlib.Core.Bool.{true}
use Rattle.theorems.specs.ProperDoubleLaws.{proper-number}
use Rattle.trees.specs.Whole.{good_length}
use Rattle.doubles.specs.Stored.{branch_given}
use Rattle.doubles.proofs.put_length.Goals as goal

pub float_to_bits-d : goal.float_to_bits-d
unfolding branch_given good_length
float_to_bits-d c = proper-number _ (subst (λ q. good_length (branch_given q) ≡ true) c.in-Some.is c.requires.x_value)
