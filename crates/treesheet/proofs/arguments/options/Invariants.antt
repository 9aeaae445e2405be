-- Each turn passes at most two arguments.
use Rattle.std.proofs.Common.{◌+◌, ◌*◌, ◌≤◌}
use Rattle.treesheet.proofs.arguments.options.Given as goal

abbrev pub invariant-loop-turn : goal.invariant-loop-turn
invariant-loop-turn g l = l.asked.names ≤ 1 + 2 * l.turn
