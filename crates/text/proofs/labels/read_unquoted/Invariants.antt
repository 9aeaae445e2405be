-- `text::labels::read_unquoted` meets its contract. The loop's invariant: the bytes from b + n on are left. Assumes nothing.
use Prim.Native.Nat.{◌+◌}
use mathlib.Core.List.{map}
use lib.Seq.{slice}
use Rattle.trees.specs.Text.{spaced}
use Rattle.text.specs.Labels.{Reading}
use Rattle.text.proofs.labels.read_unquoted.Given as goal

abbrev pub invariant-loop-n : goal.invariant-loop-n
invariant-loop-n l = Reading l.most l.initial.out l.at (map spaced (slice l.b l.e l.text)) l.out l.n (map spaced (slice (l.b + l.n) l.e l.text))
