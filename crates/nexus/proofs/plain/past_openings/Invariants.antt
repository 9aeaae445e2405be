-- `nexus::plain::past_openings` meets its contract. The loop's invariant: such bytes stand from `from` up to `at`. Assumes nothing.
use Rattle.nexus.specs.TokenLaws.{Run}
use Rattle.nexus.specs.Texts.{is_opening}
use Rattle.nexus.proofs.plain.past_openings.Given as goal

abbrev pub invariant-loop-at : goal.invariant-loop-at
invariant-loop-at l = Run is_opening l.raw l.from l.at
