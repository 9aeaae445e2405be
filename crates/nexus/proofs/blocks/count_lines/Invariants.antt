-- `nexus::blocks::count_lines` meets its contract. The loop's invariant: n lines so far, and the rest decides. Assumes nothing.
use Prim.Native.Nat.{◌-◌}
use lib.ListN.{length}
use Rattle.nexus.specs.CountLaws.{Counting}
use Rattle.nexus.proofs.blocks.count_lines.Given as goal

abbrev pub invariant-loop-from : goal.invariant-loop-from
invariant-loop-from l = Counting l.f l.from l.at l.n

abbrev pub decreases-loop-from : goal.decreases-loop-from
decreases-loop-from l = length l.f - l.at
