-- `fields::copy_down` meets its contract. The loop's invariant: the first i bytes of the run are copied.
-- Byte i of the source lies behind them, so it is still as it was. Assumes nothing.
use mathlib.Core.Path.{◌≡◌}
use Prim.Native.Nat.{◌≤◌}
use lib.ListN.{length}
use Rattle.fields.specs.Run.{copied}
use Rattle.fields.proofs.copy_down.Given as goal

abbrev pub invariant-loop-i : goal.invariant-loop-i
invariant-loop-i l = (l.i ≤ l.n) × (length l.s ≡ length l.initial.s) × (l.s ≡ copied l.initial.s l.to l.initial.s l.from l.i)
