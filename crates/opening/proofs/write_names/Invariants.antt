-- `opening::write_names` meets its contract. The loop's invariant: with the names from i on written behind, all are there. Assumes nothing.
use Prim.Native.Nat.{◌≤◌}
use mathlib.Core.Path.{◌≡◌}
use lib.ListN.{length, drop}
use Rattle.opening.specs.Places.{first_names}
use Rattle.opening.specs.Writing.{with_names}
use Rattle.opening.proofs.write_names.Given as goal

abbrev pub invariant-loop-i : goal.invariant-loop-i
invariant-loop-i l = (l.i ≤ l.n) × (length l.s ≡ length l.initial.s) × (with_names l.s l.i (drop l.i (first_names l.n l.names)) ≡ with_names l.initial.s 0 (first_names l.n l.names))
