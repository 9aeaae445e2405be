-- `recording::finding::find_rows` meets its contract. The loop's invariant: the rows of the first j splits are filled in. Assumes nothing.
use Prim.Native.Nat.{◌≤◌}
use Rattle.layout.specs.Store.{parts_at}
use Rattle.recording.specs.NewLaws.{Filled}
use Rattle.recording.proofs.finding.find_rows.Given as goal

abbrev pub invariant-loop-j : goal.invariant-loop-j
invariant-loop-j l = (l.j ≤ l.n) × Filled (parts_at l.s) l.records l.initial.rows l.j l.new l.rows
