-- `distances::write_row` meets its contract. The loop's invariant: the first j distances are written. Assumes nothing.
use Rattle.std.proofs.Common.{◌≡◌, ◌≤◌, ◌++◌, map, take, drop}
use Rattle.trees.specs.Distance.{doubled}
use Rattle.layout.specs.Store.{trees_held_at, list_at, tree_at, held_at}
use Rattle.distances.specs.Marks.{marks_of}
use Rattle.distances.proofs.write_row.Given as goal

abbrev pub invariant-loop-j : goal.invariant-loop-j
invariant-loop-j l =
    (l.j ≤ l.trees) × (l.trees ≡ trees_held_at l.s) × (l.marks ≡ marks_of (list_at l.s l.i.0))
    × (l.out ≡ take l.j (map (doubled (tree_at l.s l.i.0)) (held_at l.s).trees) ++ drop l.j l.initial.out)
