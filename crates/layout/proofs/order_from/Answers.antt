-- `layout::order_from` meets its contract: the definition. Assumes nothing.
use native.Mathlib.Omega.{arith}
use Rattle.layout.specs.Store.{order_from}
use Rattle.layout.proofs.order_from.Goals as goal

pub returns : goal.returns
unfolding order_from
returns c = record { value = omega arith; upper_bound = omega arith }
