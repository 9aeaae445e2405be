-- `writer::names::is_plain` meets its contract. The loop's invariant: the bytes from i on decide. Assumes nothing.
use Prim.Native.Nat.{◌≤◌}
use mathlib.Core.Path.{◌≡◌}
use lib.Seq.{slice}
use Rattle.writer.specs.Name.{is_plain}
use Rattle.writer.proofs.names.is_plain.Given as goal

abbrev pub invariant-loop-i : goal.invariant-loop-i
invariant-loop-i l = (l.i ≤ l.e) × (is_plain (slice l.b l.e l.s) ≡ is_plain (slice l.i l.e l.s))
