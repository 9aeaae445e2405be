-- `layout::links_from` meets its contract: the definition. Assumes nothing.
use native.Mathlib.Omega.{arith}
use Rattle.layout.specs.Store.{links_from}
use Rattle.layout.proofs.links_from.Goals as goal

pub returns : goal.returns
unfolding links_from
returns c = record { value = omega arith; upper_bound = omega arith }
