-- `text::token_end` meets its contract. Assumes nothing.
use Rattle.text.proofs.SymbolLaws.{Run}
use Rattle.text.proofs.token_end.Given as goal

abbrev pub invariant-loop-end : goal.invariant-loop-end
invariant-loop-end l = Run l.text l.from l.end
