-- `opening::names::all_names` meets its contract. The loop's invariant: the names from i on decide. Assumes nothing.
use Prim.Native.Nat.{◌≤◌}
use mathlib.Core.Path.{◌≡◌}
use lib.ListN.{drop}
use Rattle.trees.specs.Plain.{every}
use Rattle.trees.specs.Names.{is_name}
use Rattle.opening.specs.Places.{first_names}
use Rattle.opening.proofs.names.all_names.Given as goal

abbrev pub invariant-loop-i : goal.invariant-loop-i
invariant-loop-i l = (l.i ≤ l.n) × (every is_name (first_names l.n l.s) ≡ every is_name (drop l.i (first_names l.n l.s)))
