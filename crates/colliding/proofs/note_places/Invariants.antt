-- `colliding::note_places` meets its contract. The loop's invariant: the places below p are noted. Assumes nothing.
use Prim.Native.Nat.{◌≤◌}
use mathlib.Core.Path.{◌≡◌}
use Rattle.head.specs.Head.{numbers_at}
use Rattle.colliding.specs.Collisions.{Placed}
use Rattle.colliding.proofs.note_places.Given as goal

abbrev pub invariant-loop-p : goal.invariant-loop-p
invariant-loop-p l = (l.p ≤ l.places) × (l.places ≡ (numbers_at l.s).places) × Placed l.s l.p l.rows
