-- `newick::noting::note_lengths` meets its contract. The loop's invariant: what stands from `at` on decides what is noted. Assumes nothing.
use Rattle.std.proofs.Common.{◌-◌, length}
use Rattle.newick.proofs.NotingLaws.{Noting}
use Rattle.newick.proofs.noting.note_lengths.Given as goal

abbrev pub invariant-loop-at : goal.invariant-loop-at
invariant-loop-at l = Noting l.text l.initial.words l.inner l.n l.at l.words

abbrev pub decreases-loop-at : goal.decreases-loop-at
decreases-loop-at l = length l.text - l.at
