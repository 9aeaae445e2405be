use Rattle.std.proofs.Common.{◌≤◌, length}
use Rattle.timing.proofs.opened.fill_singly.Given as goal

abbrev pub decreases-loop-e : goal.decreases-loop-e
decreases-loop-e l = length l.rest

abbrev pub invariant-loop-e : goal.invariant-loop-e
invariant-loop-e l = length l.rest ≤ length l.texts
