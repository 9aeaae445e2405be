-- `text::has_quoted_byte` meets its contract. Assumes nothing.
use borrow.Author.Tests.{le-ltb, lt-ltb, eq-eqb, ne_eqb}
use mathlib.Core.Path.{◌∙◌}
use Rattle.text.specs.Read.{has_quoted_byte}
use Rattle.text.proofs.has_quoted_byte.Goals as goal

pub returns-then-text-at : goal.returns-then-text-at
unfolding has_quoted_byte
returns-then-text-at c = simp (le-ltb _ _ c.if-text-at.true)

pub returns-then-text-at-eq39 : goal.returns-then-text-at-eq39
unfolding has_quoted_byte
returns-then-text-at-eq39 c = simp (lt-ltb _ _ c.if-text-at.false, eq-eqb _ _ c.if-text-at-eq39.true)

pub returns-then-q : goal.returns-then-q
unfolding has_quoted_byte
returns-then-q c = c.is_quoted_byte.ensures ∙ simp (lt-ltb _ _ c.if-text-at.false, ne_eqb _ _ c.if-text-at-eq39.false, c.if-q.true)

pub returns : goal.returns
unfolding has_quoted_byte
returns c = simp (lt-ltb _ _ c.if-text-at.false, ne_eqb _ _ c.if-text-at-eq39.false, c.if-q.false)
