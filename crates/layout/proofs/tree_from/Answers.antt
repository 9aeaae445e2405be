-- `layout::tree_from` meets its contract: the definition. Assumes nothing.
use native.Mathlib.Omega.{arith}
use Rattle.layout.specs.Store.{lane_from, tree_from}
use Rattle.layout.proofs.tree_from.Goals as goal

pub returns : goal.returns
unfolding tree_from lane_from
returns c = record { value = omega arith; upper_bound = omega arith }
