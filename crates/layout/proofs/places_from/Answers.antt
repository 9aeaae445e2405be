-- `layout::places_from` meets its contract: the definition. Assumes nothing.
use native.Mathlib.Omega.{arith}
use Rattle.layout.specs.Store.{places_from}
use Rattle.layout.proofs.places_from.Goals as goal

pub returns : goal.returns
unfolding places_from
returns c = record { value = omega arith; upper_bound = omega arith }
