-- `listing::list_tree` meets its contract. The loop's invariant: the first j rows are entered. Assumes nothing.
use Prim.Native.Nat.{◌≤◌}
use lib.ListN.{take}
use Rattle.recording.specs.EnteringLaws.{Entering}
use Rattle.recording.proofs.EnteringRows.{Given}
use Rattle.recording.proofs.listing.list_tree.Given as goal

abbrev pub invariant-loop-j : goal.invariant-loop-j
invariant-loop-j l = Given l.initial.s l.rows l.n l.trees l.from l.counts × (l.j ≤ l.n) × Entering l.initial.s (take l.n l.rows) l.j l.s
