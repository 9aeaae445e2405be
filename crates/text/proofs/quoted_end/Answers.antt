use native.Mathlib.Omega.{arith}
use borrow.Author.Rules.{rules}
use mathlib.Core.Path.{sym, ◌∙◌}
use Rattle.text.proofs.QuotedLaws.{quoted-there, quoted-none, quoted-more, quoted-open, quoted-short, quoted-whole}
use Rattle.text.proofs.quoted_end.Goals as goal

pub loop-q-init : goal.loop-q-init
loop-q-init c = quoted-none _ _ (search rules)

pub bounds-text-end : goal.bounds-text-end
bounds-text-end c = quoted-there _ _ _ (sym c.has_quoted_byte.ensures ∙ c.loop-q-test.true)

pub overflow_add-end : goal.overflow_add-end
overflow_add-end c = omega (arith, quoted-there c.args.text.now c.loop-q.end c.loop-q.q (sym c.has_quoted_byte.ensures ∙ c.loop-q-test.true))

pub loop-q-smaller : goal.loop-q-smaller
loop-q-smaller c = omega (arith, quoted-there c.args.text.now c.loop-q.end c.loop-q.q (sym c.has_quoted_byte.ensures ∙ c.loop-q-test.true))

pub loop-q-preserved : goal.loop-q-preserved
loop-q-preserved c = quoted-more _ _ _ _ _ c.loop-q.invariant (sym c.has_quoted_byte.ensures ∙ c.loop-q-test.true) c.turned-q.ensures

pub returns-then-q : goal.returns-then-q
returns-then-q c = quoted-open _ _ c.requires.0 c.requires.1 _ _ c.loop-q.invariant (sym c.has_quoted_byte.ensures ∙ c.loop-q-test.false) c.if-q.true

pub returns-then-end-from-lt3 : goal.returns-then-end-from-lt3
returns-then-end-from-lt3 c = quoted-short _ _ c.requires.0 c.requires.1 _ _ c.loop-q.invariant (sym c.has_quoted_byte.ensures ∙ c.loop-q-test.false) c.if-q.false c.if-end-from-lt3.true

pub returns : goal.returns
returns c = quoted-whole _ _ c.requires.0 c.requires.1 _ _ c.loop-q.invariant (sym c.has_quoted_byte.ensures ∙ c.loop-q-test.false) c.if-q.false c.if-end-from-lt3.false
