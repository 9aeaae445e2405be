-- `text::labels::read_quoted` meets its contract. The loop's invariant: the bytes from i on are left. Assumes nothing.
use Prim.Native.Nat.{◌≤◌}
use mathlib.Core.Bool.{true}
use lib.Seq.{slice}
use Rattle.trees.specs.Text.{unquoted}
use Rattle.text.specs.Labels.{Reading}
use Rattle.text.proofs.labels.read_quoted.Given as goal

abbrev pub invariant-loop-i : goal.invariant-loop-i
invariant-loop-i l = (l.i ≤ l.e) × Reading l.most l.initial.out l.at (unquoted true (slice l.b l.e l.text)) l.out l.n (unquoted l.inside (slice l.i l.e l.text))
