-- `text::ends::count_quoted` meets its contract. The loop's invariant: those so far, and those of the rest. Assumes nothing.
use Prim.Native.Nat.{◌+◌, ◌≤◌}
use mathlib.Core.Path.{◌≡◌}
use lib.ListN.{length, drop}
use Rattle.trees.specs.Batch.{texts_in}
use Rattle.text.proofs.ends.count_quoted.Given as goal

abbrev pub invariant-loop-i : goal.invariant-loop-i
invariant-loop-i l = (l.i ≤ length l.block) × (l.n ≤ l.i) × (l.n + texts_in l.quoted (drop l.i l.block) ≡ texts_in l.q l.block)
