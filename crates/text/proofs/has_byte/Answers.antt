-- `text::has_byte` meets its contract. Assumes nothing.
use borrow.Author.Tests.{lt-ltb, le-ltb}
use Rattle.text.specs.Read.{has_byte}
use Rattle.text.proofs.has_byte.Goals as goal

pub returns-then-at-text : goal.returns-then-at-text
unfolding has_byte
returns-then-at-text c = simp (lt-ltb _ _ c.if-at-text.true)

pub returns : goal.returns
unfolding has_byte
returns c = simp (le-ltb _ _ c.if-at-text.false)
