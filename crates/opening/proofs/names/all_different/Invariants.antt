-- `opening::names::all_different` meets its contract. The loop's invariant: the names from i on decide. Assumes nothing.
use Prim.Native.Nat.{◌≤◌}
use mathlib.Core.Path.{◌≡◌}
use lib.ListN.{drop}
use Rattle.trees.specs.Names.{different}
use Rattle.opening.specs.Places.{first_names}
use Rattle.opening.proofs.names.all_different.Given as goal

abbrev pub invariant-loop-i : goal.invariant-loop-i
invariant-loop-i l = (l.i ≤ l.n) × (different (first_names l.n l.s) ≡ different (drop l.i (first_names l.n l.s)))
