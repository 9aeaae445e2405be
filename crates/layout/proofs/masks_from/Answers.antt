-- `layout::masks_from` meets its contract: the definition. Assumes nothing.
use native.Mathlib.Omega.{arith}
use Rattle.layout.specs.Store.{lane_from, tree_from, masks_from}
use Rattle.layout.proofs.masks_from.Goals as goal

pub returns : goal.returns
unfolding masks_from tree_from lane_from
returns c = record { value = omega arith; upper_bound = omega arith }
