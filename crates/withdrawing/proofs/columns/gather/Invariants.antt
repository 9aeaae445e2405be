-- `columns::gather` meets its contract. The loop's invariant: the numbers of the first j rows are moved. The next one lies
-- behind them, so it is still as it was. Assumes nothing.
use Prim.Native.Nat.{◌≤◌}
use lib.ListN.{take}
use Rattle.withdrawing.specs.Moved.{Gathered}
use Rattle.withdrawing.proofs.GatherLaws.{Given}
use Rattle.withdrawing.proofs.columns.gather.Given as goal

abbrev pub invariant-loop-j : goal.invariant-loop-j
invariant-loop-j l = Given l.initial.s l.from l.width l.rows l.m × (l.j ≤ l.m) × Gathered l.width l.from (take l.j l.rows) l.initial.s l.s
