use native.Mathlib.Omega.{arith}
use mathlib.Core.Path.{refl, sym, ◌∙◌}
use Rattle.writer.specs.NameLaws.{plain_more, plain-not, plain_end}
use Rattle.writer.proofs.names.is_plain.Goals as goal

pub loop-i-init : goal.loop-i-init
loop-i-init c = (omega arith, refl)

pub returns-then-wants_quotes : goal.returns-then-wants_quotes
returns-then-wants_quotes c =
    let l = c.loop-i in
    let a = c.args in
    sym (l.invariant.1 ∙ plain-not a.s.now l.i a.e (omega arith) (omega arith) (sym c.wants_quotes.ensures ∙ c.if-wants_quotes.true))

pub loop-i-preserved : goal.loop-i-preserved
loop-i-preserved c =
    let l = c.loop-i in
    let a = c.args in
    (omega arith, l.invariant.1 ∙ plain_more a.s.now l.i a.e (omega arith) (omega arith) (sym c.wants_quotes.ensures ∙ c.if-wants_quotes.false))

pub returns : goal.returns
returns c =
    let l = c.loop-i in
    sym (l.invariant.1 ∙ plain_end _ l.i _ l.invariant.0 (omega arith))
