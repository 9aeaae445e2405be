-- `distances::eight::mark_words` meets its contract. The loop's invariant: with the rows from the index on added too, all are. Assumes nothing.
use Rattle.std.proofs.Common.{◌≡◌, ◌≤◌, length, drop}
use Rattle.trees.specs.Opening.{most_room}
use Rattle.distances.specs.Eight.{added}
use Rattle.distances.proofs.eight.mark_words.Given as goal

abbrev pub invariant-loop-row : goal.invariant-loop-row
invariant-loop-row l = (l.row-index ≤ length l.rows) × (length l.words ≡ most_room) × (added l.v l.rows l.initial.words ≡ added l.v (drop l.row-index l.rows) l.words)
