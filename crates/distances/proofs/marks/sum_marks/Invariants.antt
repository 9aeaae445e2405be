-- `distances::marks::sum_marks` meets its contract. The loop's invariant: the rows from `at` on are left to sum. Assumes nothing.
use Rattle.std.proofs.Common.{◌≡◌, ◌+◌, ◌*◌, ◌≤◌, drop}
use Rattle.layout.specs.Store.{list_at, most_splits}
use Rattle.distances.specs.Marks.{mark_sum}
use Rattle.distances.proofs.marks.sum_marks.Given as goal

abbrev pub invariant-loop-at : goal.invariant-loop-at
invariant-loop-at l = (l.at ≤ l.n) × (l.n ≤ most_splits) × (l.sum ≤ 256 * l.at) × (mark_sum l.marks (list_at l.s l.j) ≡ l.sum + mark_sum l.marks (drop l.at (list_at l.s l.j)))
