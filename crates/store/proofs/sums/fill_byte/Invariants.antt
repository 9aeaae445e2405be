-- `store::sums::fill_byte` meets its contract. The loop's invariant: the sums over the first i taxa of byte b stand there. Assumes nothing.
use Rattle.std.proofs.Common.{◌≡◌, ◌^◌, ◌≤◌}
use Rattle.store.specs.Sums.{constants_at, ByteSums}
use Rattle.store.proofs.sums.fill_byte.Given as goal

abbrev pub invariant-loop-i : goal.invariant-loop-i
invariant-loop-i l = (l.i ≤ 8) × (l.width ≡ 2 ^ l.i) × (l.width ≤ 256) × ByteSums (constants_at l.second l.s) l.b l.width l.initial.sums l.sums
