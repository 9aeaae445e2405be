-- `opening::write_first` meets its contract. The loop's invariant: with the constants from i on put behind, all are there. Assumes nothing.
use Prim.Native.Nat.{◌+◌, ◌*◌, ◌≤◌}
use mathlib.Core.Path.{◌≡◌}
use lib.ListN.{length, drop}
use Rattle.opening.specs.Writing.{puts}
use Rattle.opening.proofs.write_first.Given as goal

abbrev pub invariant-loop-i : goal.invariant-loop-i
invariant-loop-i l = (l.i ≤ length l.list) × (length l.s ≡ length l.initial.s) × (puts 2 l.s (2128 + 2 * l.i) (drop l.i l.list) ≡ puts 2 l.initial.s 2128 l.list)
