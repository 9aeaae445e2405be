-- `head::same_runs` meets its contract. The loop's invariant: the bytes of the first k words are the same. Assumes nothing.
use Rattle.std.proofs.Common.{◌+◌, ◌*◌}
use Rattle.head.specs.WordLaws.{SameUpTo}
use Rattle.head.proofs.same_runs.Given as goal

abbrev pub invariant-loop-k : goal.invariant-loop-k
invariant-loop-k l = SameUpTo l.s l.text l.a l.b (l.a + 8 * l.k)
