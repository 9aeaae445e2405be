-- `layout::branches_from` meets its contract: the definition. Assumes nothing.
use native.Mathlib.Omega.{arith}
use Rattle.layout.specs.Store.{places_from, branches_from}
use Rattle.layout.proofs.branches_from.Goals as goal

pub returns : goal.returns
unfolding branches_from places_from
returns c = record { value = omega arith; upper_bound = omega arith }
