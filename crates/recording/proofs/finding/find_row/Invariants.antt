-- `recording::finding::find_row` meets its contract. The loop's invariant: the entry leads along the mask's place, and the rows passed
-- have other masks. The measure is the entry, for links fall. Assumes nothing.
use Rattle.recording.specs.WalkLaws.{Walk}
use Rattle.recording.proofs.finding.find_row.Given as goal

abbrev pub invariant-loop-entry : goal.invariant-loop-entry
invariant-loop-entry l = Walk l.s l.m l.entry

abbrev pub decreases-loop-entry : goal.decreases-loop-entry
decreases-loop-entry l = l.entry
