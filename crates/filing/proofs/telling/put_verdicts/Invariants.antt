-- The loop's invariant: those so far, and those of the rest.
use Rattle.std.proofs.Common.{◌≡◌, ◌+◌, ◌≤◌, length, drop}
use Rattle.trees.specs.Batch.{refused_in}
use Rattle.filing.proofs.telling.put_verdicts.Given as goal

abbrev pub invariant-loop-i : goal.invariant-loop-i
invariant-loop-i l = (l.i ≤ length l.verdicts) × (l.refused ≤ l.i) × (l.refused + refused_in (drop l.i l.verdicts) ≡ refused_in l.verdicts)
