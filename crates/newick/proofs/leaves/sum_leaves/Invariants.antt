-- `newick::leaves::sum_leaves` meets its contract. Assumes nothing.
use Rattle.head.specs.Head.{opening_at}
use Rattle.newick.proofs.SummingLaws.{Summing}
use Rattle.newick.proofs.leaves.sum_leaves.Given as goal

abbrev pub invariant-loop-j : goal.invariant-loop-j
invariant-loop-j l = Summing (opening_at l.head) l.text l.tokens l.k l.initial.sums l.sums l.x l.j
