-- `text::label_end` meets its contract. Assumes nothing.
use mathlib.Core.Path.{sym, ◌∙◌}
use Rattle.text.proofs.TokenLaws.{quote-at, end-plain, end-odd, end-followed, end-quoted}
use Rattle.text.proofs.label_end.Goals as goal

pub returns-then-not-has_byte : goal.returns-then-not-has_byte
returns-then-not-has_byte c = end-plain _ _ _ c.token_end-run.ensures (sym c.has_byte.ensures ∙ c.if-not-has_byte.true)

pub returns-then-from-run : goal.returns-then-from-run
returns-then-from-run c = end-odd _ _ _ c.token_end-run.ensures (sym c.has_byte.ensures ∙ c.if-not-has_byte.false) c.if-from-run.true

pub quoted_end-q-requires : goal.quoted_end-q-requires
quoted_end-q-requires c = quote-at _ _ _ c.token_end-run.ensures (sym c.has_byte.ensures ∙ c.if-not-has_byte.false) c.if-from-run.false

pub returns-then-has_label_byte : goal.returns-then-has_label_byte
returns-then-has_label_byte c =
    let q = quote-at _ _ _ c.token_end-run.ensures (sym c.has_byte.ensures ∙ c.if-not-has_byte.false) c.if-from-run.false in
    end-followed _ _ q.0 q.1 _ c.quoted_end-q.ensures (sym c.has_label_byte.ensures ∙ c.if-has_label_byte.true)

pub returns : goal.returns
returns c =
    let q = quote-at _ _ _ c.token_end-run.ensures (sym c.has_byte.ensures ∙ c.if-not-has_byte.false) c.if-from-run.false in
    end-quoted _ _ q.0 q.1 _ c.quoted_end-q.ensures (sym c.has_label_byte.ensures ∙ c.if-has_label_byte.false)
