-- `phylip::symmetry::agrees` meets its contract. The loop's invariant: the rows up to j agree with row i, and are moved. Assumes nothing.
use Prim.Native.Nat.{◌≤◌, ◌<◌}
use Rattle.phylip.specs.Symmetry.{Agreed}
use Rattle.phylip.proofs.symmetry.agrees.Given as goal

abbrev pub invariant-loop-j : goal.invariant-loop-j
invariant-loop-j l = (l.i < l.j) × (l.j ≤ l.t) × Agreed l.f l.i l.j l.p l.initial.at l.at
