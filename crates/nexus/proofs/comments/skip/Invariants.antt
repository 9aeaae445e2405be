-- `nexus::comments::skip` meets its contract. The loop's invariant: blanks and comments stand up to `at`. Assumes nothing.
use Prim.Native.Nat.{◌-◌}
use lib.ListN.{length}
use Rattle.nexus.specs.CommentLaws.{Blanks}
use Rattle.nexus.proofs.comments.skip.Given as goal

abbrev pub invariant-loop-at : goal.invariant-loop-at
invariant-loop-at l = Blanks l.s l.from l.at

abbrev pub decreases-loop-at : goal.decreases-loop-at
decreases-loop-at l = length l.s - l.at
