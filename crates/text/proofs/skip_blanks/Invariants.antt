-- `text::skip_blanks` meets its contract. Assumes nothing.
use Rattle.text.proofs.SymbolLaws.{Blanks}
use Rattle.text.proofs.skip_blanks.Given as goal

abbrev pub invariant-loop-at : goal.invariant-loop-at
invariant-loop-at l = Blanks l.text l.from l.at
