-- `store::sums::double` meets its contract. The loop's invariant: the first v sums stand there with c. Assumes nothing.
use Rattle.std.proofs.Common.{◌≤◌}
use Rattle.store.specs.Sums.{Doubled}
use Rattle.store.proofs.sums.double.Given as goal

abbrev pub invariant-loop-v : goal.invariant-loop-v
invariant-loop-v l = (l.v ≤ l.width) × Doubled l.at l.width l.c l.v l.initial.sums l.sums
