-- `nexus::blocks::next_block` meets its contract. The loop's invariant: other blocks so far, and the rest decides. Assumes nothing.
use Prim.Native.Nat.{◌-◌}
use lib.ListN.{length}
use Rattle.nexus.specs.BlockLaws.{Outside}
use Rattle.nexus.proofs.blocks.next_block.Given as goal

abbrev pub invariant-loop-from : goal.invariant-loop-from
invariant-loop-from l = Outside l.f l.from l.at

abbrev pub decreases-loop-from : goal.decreases-loop-from
decreases-loop-from l = length l.f - l.at
