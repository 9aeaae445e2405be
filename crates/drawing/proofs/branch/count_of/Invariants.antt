-- `drawing::branch::count_of` meets its contract. The loop's invariant: the masks from j on decide. Assumes nothing.
use Prim.Native.Nat.{◌≤◌}
use mathlib.Core.Path.{◌≡◌}
use lib.ListN.{length, drop}
use Rattle.drawing.specs.Drawing.{count_in}
use Rattle.drawing.proofs.branch.count_of.Given as goal

abbrev pub invariant-loop-j : goal.invariant-loop-j
invariant-loop-j l = (l.j ≤ length l.list) × (count_in l.list l.counts l.x ≡ count_in (drop l.j l.list) (drop l.j l.counts) l.x)
