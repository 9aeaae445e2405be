-- `text::labels::is_plain_label` meets its contract. The loop's invariant: the bytes from i on decide. Assumes nothing.
use Prim.Native.Nat.{◌≤◌}
use mathlib.Core.Path.{◌≡◌}
use Rattle.text.specs.LabelsLaws.{plain_from}
use Rattle.text.proofs.labels.is_plain_label.Given as goal

abbrev pub invariant-loop-i : goal.invariant-loop-i
invariant-loop-i l = (l.i ≤ l.e) × (plain_from l.text l.b l.e ≡ plain_from l.text l.i l.e)
