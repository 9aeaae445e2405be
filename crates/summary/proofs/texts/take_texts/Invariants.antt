-- `summary::texts::take_texts` meets its contract. The loop's invariant: what is left of the piece decides. Assumes nothing.
use Prim.Native.Nat.{◌-◌}
use lib.ListN.{length}
use Rattle.summary.specs.PartLaws.{Rest}
use Rattle.summary.proofs.texts.take_texts.Given as goal

abbrev pub invariant-loop-at : goal.invariant-loop-at
invariant-loop-at l = Rest l.initial.s l.refused l.piece l.s l.all l.at

abbrev pub decreases-loop-at : goal.decreases-loop-at
decreases-loop-at l = length l.piece - l.at
