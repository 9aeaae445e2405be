-- `distances::eight::sum_words` meets its contract. The loop's invariant: the rows from the index on are left to sum. Assumes nothing.
use Rattle.std.proofs.Common.{◌≡◌, ◌+◌, ◌*◌, ◌≤◌, length, drop}
use Rattle.distances.specs.Marks.{mark_sum}
use Rattle.distances.proofs.eight.sum_words.Given as goal

-- no word is above 2 ^ 64 / 255, and there are at most 62
abbrev pub invariant-loop-row : goal.invariant-loop-row
invariant-loop-row l = (l.row-index ≤ length l.rows) × (l.sum ≤ 72340172838076673 * l.row-index) × (mark_sum l.words l.rows ≡ l.sum + mark_sum l.words (drop l.row-index l.rows))
