-- `grouping::majority_groups` meets its contract. The loop's invariant: of the splits below k those of the majority tree and their counts
-- are stored. Assumes nothing.
use Prim.Native.Nat.{◌≤◌}
use Rattle.grouping.specs.Majority.{Grouping}
use Rattle.grouping.proofs.majority.majority_groups.Given as goal

abbrev pub invariant-loop-k : goal.invariant-loop-k
invariant-loop-k l = (l.k ≤ l.held) × Grouping l.s l.initial.masks l.initial.counts l.masks l.counts l.n l.k
