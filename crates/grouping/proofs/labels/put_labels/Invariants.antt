-- `grouping::labels::put_labels` meets its contract. The loop's invariant: the names of the taxa below i are put. Assumes nothing.
use Prim.Native.Nat.{◌+◌, ◌*◌, ◌≤◌}
use Rattle.trees.specs.Groups.{taxa_in}
use Rattle.head.specs.Head.{names_at}
use Rattle.putting.specs.Put.{Put}
use Rattle.putting.specs.Lines.{spaced}
use Rattle.grouping.specs.GroupLines.{labels}
use Rattle.grouping.proofs.labels.put_labels.Given as goal

abbrev pub invariant-loop-i : goal.invariant-loop-i
invariant-loop-i l = (l.i ≤ l.n) × (l.e ≤ l.at + 67 * l.i) × Put l.initial.out l.at (spaced (labels (names_at l.s) (taxa_in l.i l.m))) l.out l.e
