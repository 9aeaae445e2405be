-- `opening::write_second` meets its contract. The loop's invariant: with the constants from i on put behind, all are there. Assumes nothing.
use Prim.Native.Nat.{◌+◌, ◌*◌, ◌≤◌}
use mathlib.Core.Path.{◌≡◌}
use lib.ListN.{length, drop}
use Rattle.opening.specs.Writing.{puts}
use Rattle.opening.proofs.write_second.Given as goal

abbrev pub invariant-loop-i : goal.invariant-loop-i
invariant-loop-i l = (l.i ≤ length l.list) × (length l.s ≡ length l.initial.s) × (puts 8 l.s (2256 + 8 * l.i) (drop l.i l.list) ≡ puts 8 l.initial.s 2256 l.list)
