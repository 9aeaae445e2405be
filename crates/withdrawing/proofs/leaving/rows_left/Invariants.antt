-- `leaving::rows_left` meets its contract. The loop's invariant: those that stay of the first r rows are found. Assumes nothing.
use Rattle.withdrawing.proofs.RowsLeftLaws.{Given, State}
use Rattle.withdrawing.proofs.leaving.rows_left.Given as goal

abbrev pub invariant-loop-r : goal.invariant-loop-r
invariant-loop-r l = Given l.s l.n l.counts l.links l.initial.rows l.initial.entries × State l.s l.n l.m l.r l.initial.rows l.initial.entries l.rows l.entries
