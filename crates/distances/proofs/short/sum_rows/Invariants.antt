-- `distances::short::sum_rows` meets its contract. The loop's invariant: the rows from the index on are left to sum. Assumes nothing.
use Rattle.std.proofs.Common.{◌≡◌, ◌+◌, ◌*◌, ◌≤◌, length, drop}
use Rattle.distances.specs.Marks.{mark_sum}
use Rattle.distances.proofs.short.sum_rows.Given as goal

abbrev pub invariant-loop-row : goal.invariant-loop-row
invariant-loop-row l = (l.row-index ≤ length l.rows) × (l.sum ≤ 256 * l.row-index) × (mark_sum l.marks l.rows ≡ l.sum + mark_sum l.marks (drop l.row-index l.rows))
