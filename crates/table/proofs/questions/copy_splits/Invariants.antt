-- `table::questions::copy_splits` meets its contract. The loop's invariant: the first k masks and counts are copied. Assumes nothing.
use Prim.Native.Nat.{◌≤◌}
use mathlib.Core.Path.{◌≡◌}
use mathlib.Core.List.{◌++◌}
use lib.ListN.{take, drop}
use Rattle.layout.specs.Store.{masks_at}
use Rattle.store.specs.Counts.{counts_at}
use Rattle.table.proofs.questions.copy_splits.Given as goal

abbrev pub invariant-loop-k : goal.invariant-loop-k
invariant-loop-k l = (l.k ≤ l.held) × (l.masks ≡ take l.k (masks_at l.s) ++ drop l.k l.initial.masks) × (l.counts ≡ take l.k (counts_at l.s) ++ drop l.k l.initial.counts)
