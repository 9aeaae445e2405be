-- `store::sums::fill_sums` meets its contract. The loop's invariant: the sums of the first b bytes stand there. Assumes nothing.
use Rattle.std.proofs.Common.{◌≤◌}
use Rattle.head.specs.Head.{numbers_at}
use Rattle.store.specs.Sums.{constants_at, Sums, Blank}
use Rattle.store.proofs.sums.fill_sums.Given as goal

abbrev pub invariant-loop-b : goal.invariant-loop-b
invariant-loop-b l = (l.b ≤ 8) × Sums (constants_at l.second l.s) l.b l.sums × Blank (numbers_at l.s).taxa l.sums
