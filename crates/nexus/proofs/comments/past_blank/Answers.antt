-- `nexus::comments::past_blank` meets its contract: a comment that never ends, a comment, a blank, another byte. Assumes nothing.
use mathlib.Core.Path.{sym, ◌∙◌}
use native.Mathlib.Omega.{arith}
use Rattle.nexus.specs.CommentLaws.{blank-open, blank-comment, blank-here, blank_none}
use Rattle.nexus.proofs.comments.past_blank.Goals as goal

pub returns-then-s-end : goal.returns-then-s-end
returns-then-s-end c = blank-open _ _ (omega arith) _ c.if-b-eq91.true c.past_comment-end.ensures (omega arith)

pub returns-then-b-eq91 : goal.returns-then-b-eq91
returns-then-b-eq91 c = blank-comment _ _ (omega arith) _ c.if-b-eq91.true c.past_comment-end.ensures (omega arith)

pub returns-then-is_blank : goal.returns-then-is_blank
returns-then-is_blank c = blank-here _ _ (omega arith) c.if-b-eq91.false (sym c.is_blank.ensures.value ∙ c.if-is_blank.true)

pub returns : goal.returns
returns c = blank_none _ _ (omega arith) c.if-b-eq91.false (sym c.is_blank.ensures.value ∙ c.if-is_blank.false)
