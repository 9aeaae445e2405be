-- `table::opening_calls::clear_lanes` meets its contract. The loop's invariant: the lanes below l are empty. Assumes nothing.
use Prim.Native.Nat.{◌≤◌}
use mathlib.Core.Path.{◌≡◌}
use Rattle.head.specs.Head.{numbers_at}
use Rattle.table.specs.Emptied.{LanesEmptied}
use Rattle.table.proofs.opening_calls.clear_lanes.Given as goal

abbrev pub invariant-loop-l : goal.invariant-loop-l
invariant-loop-l l = (l.l ≤ l.n) × (l.n ≡ (numbers_at l.initial.s).lanes) × LanesEmptied l.initial.s l.l l.s
