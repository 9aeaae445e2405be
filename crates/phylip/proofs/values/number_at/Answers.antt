use Rattle.std.proofs.Common.{sym, refl, arith, ◌∙◌}
use Rattle.trees.specs.Length.{is_digit}
use Rattle.theorems.specs.RunOfLaws.{behind-over}
use Rattle.phylip.specs.PlaceLaws.{begins-here, begins-past, behind-next, rest_past, ascii-digit, number-start, number_more, number-done, digit_low, capped-top}
use Rattle.phylip.proofs.values.number_at.Goals as goal

pub loop-at-init : goal.loop-at-init
loop-at-init c = (omega arith, number-start _, refl)

pub returns-then-not-is_ascii_digit : goal.returns-then-not-is_ascii_digit
returns-then-not-is_ascii_digit c =
    let v = c.loop-at.invariant in
    let e = begins-here is_digit c.args.f.now c.loop-at.at (omega arith) _ (sym (ascii-digit _) ∙ sym c.is_ascii_digit.ensures.value ∙ c.if-not-is_ascii_digit.true) in
    record { is = sym (v.1 ∙ number-done _ _ _ e v.0); behind = sym (v.2 ∙ behind-over _ _ e) }

pub with_digit-value-requires : goal.with_digit-value-requires
with_digit-value-requires c =
    let e = begins-here is_digit c.args.f.now c.loop-at.at (omega arith) _ (sym (ascii-digit _) ∙ sym c.is_ascii_digit.ensures.value ∙ c.if-not-is_ascii_digit.false) in
    (c.loop-at.invariant.0, digit_low _ _ e)

pub loop-at-preserved : goal.loop-at-preserved
loop-at-preserved c =
    let v = c.loop-at.invariant in
    let e = begins-here is_digit c.args.f.now c.loop-at.at (omega arith) _ (sym (ascii-digit _) ∙ sym c.is_ascii_digit.ensures.value ∙ c.if-not-is_ascii_digit.false) in
    (rw c.with_digit-value.ensures (capped-top _), v.1 ∙ rw c.with_digit-value.ensures (number_more _ _ _ e), v.2 ∙ behind-next _ _ _ e)

pub returns : goal.returns
returns c =
    let f = c.args.f.now in
    let v = c.loop-at.invariant in
    let e = begins-past is_digit f c.loop-at.at (omega arith) in
    record { is = sym (v.1 ∙ number-done _ _ _ e v.0); behind = sym (v.2 ∙ behind-over _ _ e ∙ rest_past f _ _ (omega arith) (omega arith)) }
