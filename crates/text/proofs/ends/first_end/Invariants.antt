-- `text::ends::first_end` meets its contract. The loop's invariant: the bytes so far, and those of the rest. Assumes nothing.
use Prim.Native.Nat.{◌+◌, ◌≤◌}
use mathlib.Core.Path.{◌≡◌}
use lib.ListN.{length, drop}
use Rattle.trees.specs.Text.{before_end}
use Rattle.text.proofs.ends.first_end.Given as goal

abbrev pub invariant-loop-i : goal.invariant-loop-i
invariant-loop-i l = (l.i ≤ length l.piece) × (l.i + length (before_end l.quoted (drop l.i l.piece)) ≡ length (before_end l.q l.piece))
