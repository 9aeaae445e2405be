use native.Mathlib.Omega.{arith}
use mathlib.Core.Path.{refl, sym, ◌∙◌}
use mathlib.Core.Bool.{true, false}
use Rattle.text.specs.LabelsLaws.{quoted-other, plain-all, plain_more, plain_end, plain-not, plain_byte}
use Rattle.text.proofs.labels.is_plain_label.Goals as goal

pub returns-then-opens_quotes : goal.returns-then-opens_quotes
returns-then-opens_quotes c = sym (quoted-other _ (sym c.opens_quotes.ensures ∙ c.if-opens_quotes.true))

pub loop-i-init : goal.loop-i-init
loop-i-init c = (omega arith, refl)

pub returns-then-text-i-eq95 : goal.returns-then-text-i-eq95
returns-then-text-i-eq95 c =
    let l = c.loop-i in
    let a = c.args in
    sym
    (plain-all _ _ _ (sym c.opens_quotes.ensures ∙ c.if-opens_quotes.false)
    ∙ l.invariant.1
    ∙ plain_more a.text.now a.e l.i true false (omega arith) (omega arith) (plain-not _ true c.if-text-i-eq95.true))

pub loop-i-preserved : goal.loop-i-preserved
loop-i-preserved c =
    let l = c.loop-i in
    let a = c.args in
    (omega arith, l.invariant.1 ∙ plain_more a.text.now a.e l.i true true (omega arith) (omega arith) (plain_byte _ true c.if-text-i-eq95.false))

pub returns : goal.returns
returns c =
    let l = c.loop-i in
    sym (plain-all _ _ _ (sym c.opens_quotes.ensures ∙ c.if-opens_quotes.false) ∙ l.invariant.1 ∙ plain_end _ _ l.i true l.invariant.0 (omega arith))
