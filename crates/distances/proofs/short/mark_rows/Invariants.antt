-- `distances::short::mark_rows` meets its contract. The loop's invariant: with the rows from the index on marked too, all are. Assumes nothing.
use Rattle.std.proofs.Common.{◌≡◌, ◌≤◌, length, drop}
use Rattle.trees.specs.Opening.{most_room}
use Rattle.distances.specs.Marks.{marked}
use Rattle.distances.proofs.short.mark_rows.Given as goal

abbrev pub invariant-loop-row : goal.invariant-loop-row
invariant-loop-row l = (l.row-index ≤ length l.rows) × (length l.marks ≡ most_room) × (marked l.v l.rows l.initial.marks ≡ marked l.v (drop l.row-index l.rows) l.marks)
