-- `table::branches::row_lengths` meets its contract. The loop's invariant: the three so far and the trees from i on decide. Assumes nothing.
use Prim.Native.Nat.{◌≤◌}
use mathlib.Core.Path.{◌≡◌}
use Rattle.answers.specs.Answers.{sums_given}
use Rattle.table.specs.SplitLengths.{go_on, lengths_left, row_lengths}
use Rattle.table.proofs.branches.row_lengths.Given as goal

abbrev pub invariant-loop-i : goal.invariant-loop-i
invariant-loop-i l = (l.i ≤ l.trees) × (go_on l.met (sums_given l.lengths) (lengths_left l.s l.row l.i) ≡ row_lengths l.s l.row)
