-- `layout::lane_from` meets its contract: the definition. Assumes nothing.
use native.Mathlib.Omega.{arith}
use mathlib.Core.Path.{refl}
use Rattle.layout.specs.Store.{lane_from}
use Rattle.layout.proofs.lane_from.Goals as goal

pub returns : goal.returns
unfolding lane_from
returns c = record { value = refl; upper_bound = omega arith }
