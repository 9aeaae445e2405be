use Prim.Native.Nat.{◌+◌, ◌-◌}
use native.Mathlib.Omega.{arith}
use mathlib.Core.Path.{◌≡◌, sym, ◌∙◌}
use Rattle.phylip.specs.PlaceLaws.{begins-within}
use Rattle.phylip.specs.PlaceRowLaws.{name-is, named_more, named-stops, named_none}
use Rattle.phylip.proofs.form.is_name.Goals as goal

pub loop-k-init : goal.loop-k-init
loop-k-init c =
    let e : c.args.i + 0 ≡ c.args.i = omega arith in
    (λ h. omega arith, rw e (name-is _))

pub overflow_add-i : goal.overflow_add-i
overflow_add-i c = grind (arith, c.loop-k.invariant.0)

pub returns-then-not-has_plain : goal.returns-then-not-has_plain
returns-then-not-has_plain c = sym (c.loop-k.invariant.1 ∙ named-stops _ _ (omega arith) (sym c.has_plain.ensures ∙ c.if-not-has_plain.true))

pub loop-k-preserved : goal.loop-k-preserved
loop-k-preserved c =
    let k = c.loop-k.k in
    let i = c.args.i in
    let h = sym c.has_plain.ensures ∙ c.if-not-has_plain.false in
    let b = begins-within _ _ _ h in
    let d : 10 - k - 1 ≡ 10 - (k + 1) = omega arith in
    let e : i + k + 1 ≡ i + (k + 1) = omega arith in
    (λ _. omega arith, c.loop-k.invariant.1 ∙ (rw (d, e) at (named_more c.args.f.now (i + k) (10 - k) (omega arith) h)))

pub returns : goal.returns
returns c = sym (c.loop-k.invariant.1 ∙ named_none _ _ (omega arith))
