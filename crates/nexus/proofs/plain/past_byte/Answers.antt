-- `nexus::plain::past_byte` meets its contract. Assumes nothing.
use native.Mathlib.Omega.{arith}
use Rattle.nexus.specs.TextLaws.{passed-blank, passed-bracket, passed-byte}
use Rattle.nexus.proofs.plain.past_byte.Goals as goal

pub returns-then-raw-at-ne91 : goal.returns-then-raw-at-ne91
returns-then-raw-at-ne91 c = passed-byte _ _ (omega arith) c.if-raw-at-ne91.true

pub returns-then-raw-end : goal.returns-then-raw-end
returns-then-raw-end c =
    let s = c.args.raw.now in
    passed-bracket s _ (omega arith) c.if-raw-at-ne91.false _ c.past_comment-end.ensures c.if-raw-end.true

pub returns : goal.returns
returns c = passed-blank _ _ (omega arith) c.if-raw-at-ne91.false _ c.past_comment-end.ensures c.if-raw-end.false
