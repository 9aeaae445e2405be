-- `newick::noting::next_stop` meets its contract. Assumes nothing.
use Rattle.newick.specs.Noting.{Passed}
use Rattle.newick.proofs.noting.next_stop.Given as goal

abbrev pub invariant-loop-at : goal.invariant-loop-at
invariant-loop-at l = Passed l.text l.from l.at
