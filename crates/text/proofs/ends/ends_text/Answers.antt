-- `text::ends::ends_text` meets its contract: no text ends in quotes, and elsewhere the byte decides. Assumes nothing.
use Rattle.trees.specs.Text.{ends_text}
use Rattle.text.proofs.ends.ends_text.Goals as goal

pub returns-then-q : goal.returns-then-q
unfolding ends_text
returns-then-q c = rw c.if-q.true

pub returns : goal.returns
unfolding ends_text
returns c = rw c.if-q.false
