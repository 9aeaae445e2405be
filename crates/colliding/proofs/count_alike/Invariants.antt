-- `colliding::count_alike` meets its contract. The loop's invariant: the count so far and the count from j on make the whole count.
-- Assumes nothing.
use Prim.Native.Nat.{◌+◌, ◌-◌, ◌≤◌}
use mathlib.Core.Path.{◌≡◌}
use Rattle.colliding.specs.Collisions.{alike, count_from}
use Rattle.colliding.proofs.count_alike.Given as goal

abbrev pub invariant-loop-j : goal.invariant-loop-j
invariant-loop-j l = (l.j ≤ l.n) × (l.count + count_from (alike l.places l.identifiers l.p l.x) l.j (l.n - l.j) ≡ count_from (alike l.places l.identifiers l.p l.x) l.from (l.n - l.from))
