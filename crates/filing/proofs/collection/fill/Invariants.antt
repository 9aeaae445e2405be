-- The numbers stay below the hash places.
use Rattle.std.proofs.Common.{◌<◌}
use Rattle.filing.proofs.collection.fill.Given as goal

abbrev pub invariant-loop-constant : goal.invariant-loop-constant
invariant-loop-constant l = l.x < 8191
