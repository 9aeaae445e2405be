-- `text::ends::open_after` meets its contract. The loop's invariant: the bytes from i on decide. Assumes nothing.
use Prim.Native.Nat.{◌≤◌}
use mathlib.Core.Path.{◌≡◌}
use lib.ListN.{length, drop}
use Rattle.trees.specs.Text.{open_after}
use Rattle.text.proofs.ends.open_after.Given as goal

abbrev pub invariant-loop-i : goal.invariant-loop-i
invariant-loop-i l = (l.i ≤ length l.piece) × (open_after l.inside (drop l.i l.piece) ≡ open_after l.q l.piece)
