-- `claiming::splits::compare` meets its contract. The loop's invariant: what is left of both lists decides the answer. Assumes nothing.
use Prim.Native.Nat.{◌≤◌}
use Rattle.claiming.specs.Along.{Along}
use Rattle.claiming.proofs.splits.compare.Given as goal

abbrev pub invariant-loop-j : goal.invariant-loop-j
invariant-loop-j l = (l.i ≤ l.k) × (l.j ≤ l.held) × Along l.least l.s l.records l.k l.i l.j
