-- `colliding::list_by_number` meets its contract. The loop's invariant: the splits with numbers below k are listed. Assumes nothing.
use Prim.Native.Nat.{◌≤◌}
use mathlib.Core.Path.{◌≡◌}
use Rattle.trees.specs.Opening.{most_room}
use Rattle.layout.specs.Store.{splits_held_at}
use Rattle.colliding.specs.Collisions.{Numbered}
use Rattle.colliding.proofs.list_by_number.Given as goal

abbrev pub invariant-loop-k : goal.invariant-loop-k
invariant-loop-k l = (l.k ≤ l.held) × (l.held ≡ splits_held_at l.s) × (l.held ≤ most_room) × Numbered l.s l.k l.places l.identifiers
