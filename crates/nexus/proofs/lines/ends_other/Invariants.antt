-- `nexus::lines::ends_other` meets its contract. The loop's invariant: what stands from `at` on decides, and is no blank.
-- Assumes nothing.
use Prim.Native.Nat.{◌-◌}
use lib.ListN.{length}
use Rattle.nexus.specs.OtherLaws.{Passed}
use Rattle.nexus.proofs.lines.ends_other.Given as goal

abbrev pub invariant-loop-at : goal.invariant-loop-at
invariant-loop-at l = Passed l.c l.at

abbrev pub decreases-loop-at : goal.decreases-loop-at
decreases-loop-at l = length l.c - l.at
