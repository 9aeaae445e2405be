-- `colliding::count_pairs` meets its contract. The loop's invariant: the sum so far and the pairs from k on make all pairs; each number
-- adds at most 4,096. Assumes nothing.
use Prim.Native.Nat.{◌+◌, ◌-◌, ◌*◌, ◌≤◌}
use mathlib.Core.Path.{◌≡◌}
use Rattle.trees.specs.Opening.{most_room}
use Rattle.colliding.specs.Collisions.{pairs_from}
use Rattle.colliding.proofs.count_pairs.Given as goal

abbrev pub invariant-loop-k : goal.invariant-loop-k
invariant-loop-k l = (l.k ≤ l.n) × (l.sum + pairs_from l.places l.identifiers l.k (l.n - l.k) ≡ pairs_from l.places l.identifiers 0 l.n) × (l.sum ≤ most_room * l.k)
