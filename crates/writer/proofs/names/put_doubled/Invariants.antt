-- `writer::names::put_doubled` meets its contract. The loop's invariant: the bytes from i on are left. Assumes nothing.
use Prim.Native.Nat.{◌+◌, ◌*◌, ◌≤◌}
use lib.Seq.{slice}
use Rattle.trees.specs.Written.{doubled}
use Rattle.putting.specs.Put.{Putting}
use Rattle.writer.proofs.names.put_doubled.Given as goal

abbrev pub invariant-loop-i : goal.invariant-loop-i
invariant-loop-i l = (l.b ≤ l.i) × (l.i ≤ l.e) × (l.end + 2 * l.b ≤ l.at + 2 * l.i) × Putting l.initial.out l.at (doubled (slice l.b l.e l.s)) l.out l.end (doubled (slice l.i l.e l.s))
