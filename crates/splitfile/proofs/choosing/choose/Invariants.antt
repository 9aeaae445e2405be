-- `splitfile::choosing::choose` meets its contract. The loop's invariant: of the first i records the chosen are the first k of the list, and agree. Assumes nothing.
use Rattle.std.proofs.Common.{◌≡◌, ◌≤◌, length}
use Rattle.trees.specs.SplitFile.{records_in}
use Rattle.splitfile.specs.Choosing.{Chose}
use Rattle.splitfile.proofs.choosing.choose.Given as goal

abbrev pub invariant-loop-i : goal.invariant-loop-i
invariant-loop-i l = (l.i ≤ l.n) × (l.k ≤ 64) × (length l.list ≡ 64) × Chose l.least (records_in l.n l.file) l.list l.k l.i
