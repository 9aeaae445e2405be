-- `distances::eight::mark_lists` meets its contract. The loop's invariant: the words are those of the first b lists. Assumes nothing.
use Rattle.std.proofs.Common.{◌≤◌}
use Rattle.distances.specs.Eight.{Words}
use Rattle.distances.proofs.eight.mark_lists.Given as goal

abbrev pub invariant-loop-b : goal.invariant-loop-b
invariant-loop-b l = (l.b ≤ l.n) × Words l.short l.sizes l.i l.b l.words
