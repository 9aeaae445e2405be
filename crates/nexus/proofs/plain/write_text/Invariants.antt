-- `nexus::plain::write_text` meets its contract. The loop's invariant: the text before `at` is written, and the bytes from `at` on decide the rest.
-- Assumes nothing.
use Prim.Native.Nat.{◌-◌}
use lib.ListN.{length}
use Rattle.nexus.specs.Commands.{pairs_in}
use Rattle.nexus.specs.Texts.{Written}
use Rattle.nexus.proofs.plain.write_text.Given as goal

abbrev pub invariant-loop-at : goal.invariant-loop-at
invariant-loop-at l = Written (pairs_in l.list l.n l.places) l.raw l.at l.to l.free l.out

abbrev pub decreases-loop-at : goal.decreases-loop-at
decreases-loop-at l = length l.raw - l.at
