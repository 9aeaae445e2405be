-- `summary::texts::count_refused` meets its contract. The loop's invariant: those so far, and those of the rest. Assumes nothing.
use Prim.Native.Nat.{◌+◌, ◌≤◌}
use mathlib.Core.Path.{◌≡◌}
use lib.ListN.{length, drop}
use Rattle.trees.specs.Batch.{refused_in}
use Rattle.summary.proofs.texts.count_refused.Given as goal

abbrev pub invariant-loop-verdict : goal.invariant-loop-verdict
invariant-loop-verdict l = (l.verdict-index ≤ length l.verdicts) × (l.count ≤ l.verdict-index) × (l.count + refused_in (drop l.verdict-index l.verdicts) ≡ refused_in l.verdicts)
