-- `head::find_name` meets its contract. The loop's invariant: the names from the entry on decide. Assumes nothing.
use Rattle.std.proofs.Common.{◌≤◌}
use lib.Seq.{slice}
use Rattle.head.specs.Head.{numbers_at, names_at}
use Rattle.head.specs.Index.{Sought, left}
use Rattle.head.proofs.find_name.Given as goal

abbrev pub invariant-loop-number : goal.invariant-loop-number
invariant-loop-number l = (l.number ≤ (numbers_at l.s).taxa) × Sought (names_at l.s) (slice l.b l.e l.text) l.number

abbrev pub decreases-loop-number : goal.decreases-loop-number
decreases-loop-number l = left l.number
