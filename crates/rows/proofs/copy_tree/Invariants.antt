-- `rows::copy_tree` meets its contract. The loop's invariant: the first j masks are copied. Assumes nothing.
use Prim.Native.Nat.{◌≤◌}
use mathlib.Core.Path.{◌≡◌}
use mathlib.Core.List.{◌++◌}
use lib.ListN.{length, take, drop}
use Rattle.layout.specs.Store.{list_at, tree_at}
use Rattle.rows.proofs.copy_tree.Given as goal

abbrev pub invariant-loop-j : goal.invariant-loop-j
invariant-loop-j l = (l.j ≤ l.n) × (l.n ≡ length (list_at l.s l.i.0)) × (l.masks ≡ take l.j (tree_at l.s l.i.0) ++ drop l.j l.initial.masks)
