-- `nexus::tokens::name_end` meets its contract. The loop's invariant: bytes of a name stand from `from` up to `at`. Assumes nothing.
use Rattle.trees.specs.Nexus.{is_name_byte}
use Rattle.nexus.specs.TokenLaws.{Run}
use Rattle.nexus.proofs.tokens.name_end.Given as goal

abbrev pub invariant-loop-at : goal.invariant-loop-at
invariant-loop-at l = Run is_name_byte l.s l.from l.at
