-- `nexus::comments::past_next` meets its contract. The loop's invariant: none of the bytes so far is `b`. Assumes nothing.
use Rattle.nexus.specs.CommentLaws.{Others}
use Rattle.nexus.proofs.comments.past_next.Given as goal

abbrev pub invariant-loop-at : goal.invariant-loop-at
invariant-loop-at l = Others l.s l.b l.from l.at
