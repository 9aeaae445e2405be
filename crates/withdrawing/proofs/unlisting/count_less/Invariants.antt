-- `unlisting::count_less` meets its contract. The loop's invariant: the first j splits are counted one less. Assumes nothing.
use Prim.Native.Nat.{◌≤◌}
use Rattle.withdrawing.specs.CountedLaws.{Counting}
use Rattle.withdrawing.proofs.CountLessLaws.{Given}
use Rattle.withdrawing.proofs.unlisting.count_less.Given as goal

abbrev pub invariant-loop-j : goal.invariant-loop-j
invariant-loop-j l = (g : Given l.initial.s l.from l.counts l.n) × (l.j ≤ l.n) × Counting l.initial.s g.tree l.j l.s
