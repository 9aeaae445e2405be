-- `feeding::texts::feed_texts` meets its contract. The loop's invariant: i texts are fed, and the rest decides. Assumes nothing.
use lib.ListN.{length}
use Rattle.feeding.specs.BatchLaws.{Going}
use Rattle.feeding.proofs.texts.feed_texts.Given as goal

abbrev pub invariant-loop-i : goal.invariant-loop-i
invariant-loop-i l = Going l.initial.s l.l.0 l.piece (length l.initial.verdicts) l.initial.verdicts l.s l.verdicts l.at l.i
