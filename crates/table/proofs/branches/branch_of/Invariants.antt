-- `table::branches::branch_of` meets its contract. The loop's invariant: what stands in the tree's list from j on decides. Assumes nothing.
use Prim.Native.Nat.{◌≤◌}
use mathlib.Core.Path.{◌≡◌}
use lib.ListN.{drop}
use Rattle.layout.specs.Store.{mask_at, list_at, tree_at, branches_at}
use Rattle.table.specs.SplitLengths.{in_tree}
use Rattle.table.proofs.branches.branch_of.Given as goal

abbrev pub invariant-loop-j : goal.invariant-loop-j
invariant-loop-j l = (l.j ≤ l.n) × (in_tree l.row (drop l.j (list_at l.s l.i.0)) (drop l.j (branches_at l.s l.i.0)) ≡ in_tree (mask_at l.s l.row) (tree_at l.s l.i.0) (branches_at l.s l.i.0))
