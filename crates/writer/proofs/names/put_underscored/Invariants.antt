-- `writer::names::put_underscored` meets its contract. The loop's invariant: the bytes from i on are left. Assumes nothing.
use Prim.Native.Nat.{◌+◌, ◌≤◌}
use mathlib.Core.Path.{◌≡◌}
use mathlib.Core.List.{map}
use lib.Seq.{slice}
use Rattle.trees.specs.Written.{underscored}
use Rattle.putting.specs.Put.{Putting}
use Rattle.writer.proofs.names.put_underscored.Given as goal

abbrev pub invariant-loop-i : goal.invariant-loop-i
invariant-loop-i l = (l.b ≤ l.i) × (l.i ≤ l.e) × (l.end + l.b ≡ l.at + l.i) × Putting l.initial.out l.at (map underscored (slice l.b l.e l.s)) l.out l.end (map underscored (slice l.i l.e l.s))
