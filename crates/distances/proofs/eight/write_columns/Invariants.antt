-- `distances::eight::write_columns` meets its contract. The loop's invariant: the columns below j are put. Assumes nothing.
use Rattle.std.proofs.Common.{◌≤◌}
use Rattle.distances.specs.Eight.{Columns}
use Rattle.distances.proofs.eight.write_columns.Given as goal

abbrev pub invariant-loop-j : goal.invariant-loop-j
invariant-loop-j l = (l.j ≤ l.trees) × Columns l.short l.sizes l.i l.n l.j l.out
