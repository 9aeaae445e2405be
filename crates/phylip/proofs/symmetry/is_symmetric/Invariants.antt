-- `phylip::symmetry::is_symmetric` meets its contract. The loop's invariant: the first i rows are settled. Assumes nothing.
use Prim.Native.Nat.{◌≤◌}
use Rattle.phylip.specs.Symmetry.{Settled}
use Rattle.phylip.proofs.symmetry.is_symmetric.Given as goal

abbrev pub invariant-loop-i : goal.invariant-loop-i
invariant-loop-i l = (l.i ≤ l.t) × Settled l.f l.t l.i l.initial.at l.at
