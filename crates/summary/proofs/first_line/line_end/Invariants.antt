-- `summary::first_line::line_end` meets its contract. The loop's invariant: the bytes so far, and those of the rest. Assumes nothing.
use Prim.Native.Nat.{◌+◌, ◌≤◌}
use mathlib.Core.Path.{◌≡◌}
use lib.ListN.{length, drop}
use Rattle.summary.specs.Summary.{first_line}
use Rattle.summary.proofs.first_line.line_end.Given as goal

abbrev pub invariant-loop-i : goal.invariant-loop-i
invariant-loop-i l = (l.i ≤ length l.piece) × (l.i + length (first_line (drop l.i l.piece)) ≡ length (first_line l.piece))
