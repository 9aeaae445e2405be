-- `phylip::writing::most_bytes` meets its contract. Assumes nothing.
use native.Mathlib.Omega.{arith}
use mathlib.Core.Path.{refl}
use Rattle.phylip.specs.Writing.{most_bytes}
use Rattle.phylip.specs.WritingLaws.{most-few}
use Rattle.phylip.proofs.writing.most_bytes.Goals as goal

pub overflow_mul-result-2 : goal.overflow_mul-result-2
overflow_mul-result-2 c = omega (arith, most-few c.args.trees c.requires)

pub overflow_add-result-2 : goal.overflow_add-result-2
overflow_add-result-2 c = omega (arith, most-few c.args.trees c.requires)

pub returns : goal.returns
unfolding most_bytes
returns c = refl
