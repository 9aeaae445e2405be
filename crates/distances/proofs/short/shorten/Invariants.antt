-- `distances::short::shorten` meets its contract. The loop's invariant: the lists of the first i trees stand in the table. Assumes nothing.
use Rattle.std.proofs.Common.{◌≤◌}
use Rattle.distances.specs.Short.{Shortened}
use Rattle.distances.proofs.short.shorten.Given as goal

abbrev pub invariant-loop-i : goal.invariant-loop-i
invariant-loop-i l = (l.i ≤ l.n) × Shortened l.s l.i l.short l.sizes
