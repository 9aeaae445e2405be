-- `weighing::weighted` meets its contract. The loop's invariant: what is left behind i and j, added to t, is the distance. Assumes nothing.
use Prim.Native.Nat.{◌+◌, ◌-◌}
use Rattle.weighing.specs.WalkLaws.{Going}
use Rattle.weighing.proofs.weighted.Given as goal

abbrev pub invariant-loop-i : goal.invariant-loop-i
invariant-loop-i l = Going l.a l.xs l.b l.ys l.t l.i l.j

abbrev pub decreases-loop-i : goal.decreases-loop-i
decreases-loop-i l = l.n - (l.i + l.j)
