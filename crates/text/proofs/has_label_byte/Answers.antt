-- `text::has_label_byte` meets its contract. Assumes nothing.
use borrow.Author.Tests.{lt-ltb, le-ltb}
use mathlib.Core.Path.{◌∙◌}
use Rattle.text.specs.Read.{has_label_byte}
use Rattle.text.proofs.has_label_byte.Goals as goal

pub returns-then-at-text : goal.returns-then-at-text
unfolding has_label_byte
returns-then-at-text c = c.is_label_byte.ensures ∙ simp (lt-ltb _ _ c.if-at-text.true)

pub returns : goal.returns
unfolding has_label_byte
returns c = simp (le-ltb _ _ c.if-at-text.false)
