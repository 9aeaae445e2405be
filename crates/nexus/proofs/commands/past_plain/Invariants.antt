-- `nexus::commands::past_plain` meets its contract. The loop's invariant: plain bytes stand up to `at`. Assumes nothing.
use Rattle.nexus.specs.Places.{PlainRun}
use Rattle.nexus.proofs.commands.past_plain.Given as goal

abbrev pub invariant-loop-at : goal.invariant-loop-at
invariant-loop-at l = PlainRun l.s l.from l.at
