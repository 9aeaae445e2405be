-- `leaving::close_order` meets its contract. The loop's invariant: those that count of the first k rows are moved to the front.
-- The next row lies behind them, and the counts before them, so they are still as they were. Assumes nothing.
use Rattle.withdrawing.proofs.CloseOrderLaws.{Given, State}
use Rattle.withdrawing.proofs.leaving.close_order.Given as goal

abbrev pub invariant-loop-k : goal.invariant-loop-k
invariant-loop-k l = Given l.initial.s l.n l.entries l.counts l.from × State l.initial.s l.n l.entries l.s l.m l.k
