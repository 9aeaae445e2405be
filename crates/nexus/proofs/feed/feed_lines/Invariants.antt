-- `nexus::feed::feed_lines` meets its contract. The loop's invariant: i trees are fed, and the rest decides; the buffer keeps its length.
-- Assumes nothing.
use mathlib.Core.Path.{◌≡◌}
use lib.ListN.{length}
use Rattle.trees.specs.Held.{most_text}
use Rattle.nexus.specs.Commands.{pairs_in}
use Rattle.nexus.specs.FeedLaws.{Going}
use Rattle.nexus.proofs.feed.feed_lines.Given as goal

abbrev pub invariant-loop-i : goal.invariant-loop-i
invariant-loop-i l = Going (pairs_in l.list l.pairs l.places) l.f l.from l.n l.initial.s l.initial.verdicts l.s l.verdicts l.at l.i × (length l.text ≡ most_text)
