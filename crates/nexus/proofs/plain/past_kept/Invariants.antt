-- `nexus::plain::past_kept` meets its contract. The loop's invariant: such bytes stand from `from` up to `at`. Assumes nothing.
use Rattle.nexus.specs.TokenLaws.{Run}
use Rattle.nexus.specs.Texts.{is_kept}
use Rattle.nexus.proofs.plain.past_kept.Given as goal

abbrev pub invariant-loop-at : goal.invariant-loop-at
invariant-loop-at l = Run is_kept l.raw l.from l.at
