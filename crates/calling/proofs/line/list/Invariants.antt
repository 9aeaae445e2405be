use Rattle.std.proofs.Common.{◌≤◌, length}
use Rattle.calling.proofs.line.list.Given as goal

abbrev pub invariant-loop-part : goal.invariant-loop-part
invariant-loop-part l = l.count ≤ length l.out
