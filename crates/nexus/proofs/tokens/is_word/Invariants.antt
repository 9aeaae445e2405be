-- `nexus::tokens::is_word` meets its contract. The loop's invariant: the first `i` bytes are alike, so that the rest decides.
-- Assumes nothing.
use Rattle.nexus.specs.TokenLaws.{Alike}
use Rattle.nexus.proofs.tokens.is_word.Given as goal

abbrev pub invariant-loop-i : goal.invariant-loop-i
invariant-loop-i l = Alike l.s l.b l.e l.k l.i
