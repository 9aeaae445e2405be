use Rattle.std.proofs.Common.{sym, refl, arith, ◌∙◌}
use borrow.Author.Tests.{eq-eqb, ne_eqb}
use Rattle.theorems.specs.RunOfLaws.{behind-over}
use Rattle.phylip.specs.Walk.{is_byte}
use Rattle.phylip.specs.PlaceLaws.{begins-here, begins-past, behind-next, rest_past}
use Rattle.phylip.proofs.values.spaces_end.Goals as goal

pub loop-at-init : goal.loop-at-init
loop-at-init c = refl

pub returns-then-f-at-ne32 : goal.returns-then-f-at-ne32
unfolding is_byte
returns-then-f-at-ne32 c = sym (c.loop-at.invariant ∙ behind-over _ _ (begins-here (is_byte 32) _ _ (omega arith) _ (ne_eqb _ 32 c.if-f-at-ne32.true)))

pub loop-at-preserved : goal.loop-at-preserved
unfolding is_byte
loop-at-preserved c = c.loop-at.invariant ∙ behind-next _ _ _ (begins-here (is_byte 32) _ _ (omega arith) _ (eq-eqb _ 32 c.if-f-at-ne32.false))

pub returns : goal.returns
returns c =
    let f = c.args.f.now in
    sym (c.loop-at.invariant ∙ behind-over _ _ (begins-past (is_byte 32) f _ (omega arith)) ∙ rest_past f _ _ (omega arith) (omega arith))
