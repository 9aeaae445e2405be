-- `opening::names::place_names` meets its contract. The loop's invariant: the names before `at` lie in the first i places. Assumes nothing.
use mathlib.Core.Path.{◌≡◌}
use lib.ListN.{length}
use Rattle.opening.specs.Places.{Reached}
use Rattle.opening.proofs.names.place_names.Given as goal

abbrev pub invariant-loop-i : goal.invariant-loop-i
invariant-loop-i l = (length l.names ≡ length l.initial.names) × Reached l.list l.at l.i l.names
