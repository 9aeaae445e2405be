use native.Mathlib.Omega.{arith}
use borrow.Author.Rules.{rules}
use borrow.Author.Tests.{eqb-true, eqb-false}
use lib.ListN.{length}
use mathlib.Core.Path.{◌≡◌, sym, ◌∙◌}
use Rattle.text.proofs.SymbolLaws.{blanks-none, blanks-more}
use Rattle.text.specs.PlaceLaws.{kind-is, kind-there, end-stops}
use Rattle.text.proofs.skip_blanks.Goals as goal

pub loop-at-init : goal.loop-at-init
loop-at-init c = blanks-none _ _ (search rules)

pub returns-then-not-is_blank : goal.returns-then-not-is_blank
returns-then-not-is_blank c = record { past = search rules; within = search rules; tokens = c.loop-at.invariant.tokens; each = c.loop-at.invariant.each; stop = λ e. eqb-false _ 0 (sym c.is_blank.ensures.value_2 ∙ c.if-not-is_blank.true) (sym (kind-there _ _ (search rules)) ∙ e) }

pub loop-at-preserved : goal.loop-at-preserved
loop-at-preserved c = blanks-more _ _ _ c.loop-at.invariant (search rules) (kind-is 0 (sym (eqb-true _ 0 (sym c.is_blank.ensures.value_2 ∙ c.if-not-is_blank.false))) (omega arith))

pub returns : goal.returns
returns c =
    let e : c.loop-at.at ≡ length c.args.text.now = omega arith in
    let b = rw e at c.loop-at.invariant in
    record { past = search rules; within = search rules; tokens = b.tokens; each = b.each; stop = end-stops _ _ (omega arith) }
