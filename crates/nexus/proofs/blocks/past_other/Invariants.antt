-- `nexus::blocks::past_other` meets its contract. The loop's invariant: the commands so far do not end the block. Assumes nothing.
use Prim.Native.Nat.{◌-◌}
use lib.ListN.{length}
use Rattle.nexus.specs.BlockLaws.{Beyond}
use Rattle.nexus.proofs.blocks.past_other.Given as goal

abbrev pub invariant-loop-from : goal.invariant-loop-from
invariant-loop-from l = Beyond l.f l.from l.at

abbrev pub decreases-loop-from : goal.decreases-loop-from
decreases-loop-from l = length l.f - l.at
