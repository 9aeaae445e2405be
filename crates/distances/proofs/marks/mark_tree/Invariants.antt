-- `distances::marks::mark_tree` meets its contract. The loop's invariant: with the rows from j on marked too, all are. Assumes nothing.
use Rattle.std.proofs.Common.{◌≡◌, ◌≤◌, length, drop}
use Rattle.trees.specs.Opening.{most_room}
use Rattle.layout.specs.Store.{list_at}
use Rattle.distances.specs.Marks.{marked}
use Rattle.distances.proofs.marks.mark_tree.Given as goal

abbrev pub invariant-loop-j : goal.invariant-loop-j
invariant-loop-j l = (l.j ≤ l.n) × (length l.marks ≡ most_room) × (marked 0 (list_at l.s l.i) l.initial.marks ≡ marked 0 (drop l.j (list_at l.s l.i)) l.marks)
