-- `colliding::note_place` meets its contract. The loop's invariant: the rows of the place from the entry on are noted. Assumes nothing.
use Rattle.colliding.specs.Collisions.{PlacedPart}
use Rattle.colliding.proofs.note_place.Given as goal

abbrev pub invariant-loop-entry : goal.invariant-loop-entry
invariant-loop-entry l = PlacedPart l.s l.p l.entry l.rows

abbrev pub decreases-loop-entry : goal.decreases-loop-entry
decreases-loop-entry l = l.entry
