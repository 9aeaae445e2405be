-- `text::ends::holds` meets its contract. The loop's invariant: whether it stands among the bytes so far, or in the rest. Assumes nothing.
use Prim.Native.Nat.{◌≤◌}
use mathlib.Core.Path.{◌≡◌}
use mathlib.Core.Bool.{◌||◌}
use lib.ListN.{length, drop}
use Rattle.trees.specs.Plain.{member}
use Rattle.text.proofs.ends.holds.Given as goal

abbrev pub invariant-loop-i : goal.invariant-loop-i
invariant-loop-i l = (l.i ≤ length l.block) × ((l.found || member l.b (drop l.i l.block)) ≡ member l.b l.block)
