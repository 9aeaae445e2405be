-- `nexus::commands::command_end` meets its contract. The loop's invariant: no comment and no quotes are open at `at`, no semicolon
-- stands before it outside them, and no plain byte stands there. Assumes nothing.
use Prim.Native.Nat.{◌-◌}
use lib.ListN.{length}
use Rattle.nexus.specs.CommandLaws.{Passed}
use Rattle.nexus.proofs.commands.command_end.Given as goal

abbrev pub invariant-loop-at : goal.invariant-loop-at
invariant-loop-at l = Passed l.s l.from l.at

abbrev pub decreases-loop-at : goal.decreases-loop-at
decreases-loop-at l = length l.s - l.at
