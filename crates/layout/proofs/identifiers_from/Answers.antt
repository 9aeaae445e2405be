-- `layout::identifiers_from` meets its contract: the definition. Assumes nothing.
use native.Mathlib.Omega.{arith}
use Rattle.layout.specs.Store.{identifiers_from}
use Rattle.layout.proofs.identifiers_from.Goals as goal

pub returns : goal.returns
unfolding identifiers_from
returns c = record { value = omega arith; upper_bound = omega arith }
