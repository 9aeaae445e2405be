-- `layout::counts_from` meets its contract: the definition. Assumes nothing.
use native.Mathlib.Omega.{arith}
use Rattle.layout.specs.Store.{counts_from}
use Rattle.layout.proofs.counts_from.Goals as goal

pub returns : goal.returns
unfolding counts_from
returns c = record { value = omega arith; upper_bound = omega arith }
