-- `opening::names::comes_again` meets its contract. The loop's invariant: the names from j on decide. Assumes nothing.
use Prim.Native.Nat.{◌+◌, ◌≤◌}
use mathlib.Core.Path.{◌≡◌}
use lib.ListN.{drop}
use Rattle.trees.specs.Plain.{in_names}
use Rattle.head.specs.Head.{name_at}
use Rattle.opening.specs.Places.{first_names}
use Rattle.opening.proofs.names.comes_again.Given as goal

abbrev pub invariant-loop-j : goal.invariant-loop-j
invariant-loop-j l = (l.j ≤ l.n) × (in_names (name_at l.s l.i) (drop (l.i + 1) (first_names l.n l.s)) ≡ in_names (name_at l.s l.i) (drop l.j (first_names l.n l.s)))
