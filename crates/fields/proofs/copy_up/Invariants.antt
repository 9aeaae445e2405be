-- `fields::copy_up` meets its contract. The loop's invariant: the bytes of the run from i on are copied.
-- Byte i - 1 of the source lies before them, so it is still as it was. Assumes nothing.
use mathlib.Core.Path.{◌≡◌}
use Prim.Native.Nat.{◌≤◌, ◌+◌, ◌-◌}
use lib.ListN.{length}
use Rattle.fields.specs.Run.{copied}
use Rattle.fields.proofs.copy_up.Given as goal

abbrev pub invariant-loop-i : goal.invariant-loop-i
invariant-loop-i l = (l.i ≤ l.n) × (length l.s ≡ length l.initial.s) × (l.s ≡ copied l.initial.s (l.to + l.i) l.initial.s (l.from + l.i) (l.n - l.i))
