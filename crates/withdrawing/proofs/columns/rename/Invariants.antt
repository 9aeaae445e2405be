-- `columns::rename` meets its contract. The loop's invariant: the first j numbers are named anew. The next one lies behind
-- them, so it is still as it was. Assumes nothing.
use Prim.Native.Nat.{◌≤◌}
use Rattle.withdrawing.specs.Moved.{Renamed}
use Rattle.withdrawing.proofs.RenameLaws.{Given}
use Rattle.withdrawing.proofs.columns.rename.Given as goal

abbrev pub invariant-loop-j : goal.invariant-loop-j
invariant-loop-j l = Given l.initial.s l.from l.n l.entries l.add × (l.j ≤ l.n) × Renamed l.from l.j l.entries l.add l.initial.s l.s
