-- `nexus::plain::shown_byte` meets its contract. Assumes nothing.
use native.Mathlib.Omega.{arith}
use Rattle.nexus.specs.TextLaws.{shown-blank, shown-bracket, shown-byte}
use Rattle.nexus.proofs.plain.shown_byte.Goals as goal

pub returns-then-past_comment-raw : goal.returns-then-past_comment-raw
returns-then-past_comment-raw c = shown-blank _ _ (omega arith) c.if-b-eq91.true _ c.past_comment.ensures c.if-past_comment-raw.true

pub returns-else-past_comment-raw : goal.returns-else-past_comment-raw
returns-else-past_comment-raw c = shown-bracket _ _ (omega arith) c.if-b-eq91.true _ c.past_comment.ensures c.if-past_comment-raw.false

pub returns-else-b-eq91 : goal.returns-else-b-eq91
returns-else-b-eq91 c = shown-byte _ _ (omega arith) c.if-b-eq91.false
