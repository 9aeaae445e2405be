-- `layout::lengths_from` meets its contract: the definition. Assumes nothing.
use native.Mathlib.Omega.{arith}
use Rattle.layout.specs.Store.{lengths_from}
use Rattle.layout.proofs.lengths_from.Goals as goal

pub returns : goal.returns
unfolding lengths_from
returns c = record { value = omega arith; upper_bound = omega arith }
