use Prim.Native.Nat.{◌+◌, ◌-◌}
use native.Mathlib.Omega.{arith}
use mathlib.Core.Path.{◌≡◌, refl, sym, ap, ◌∙◌}
use lib.ListN.{drop}
use Rattle.phylip.specs.Walk.{rest}
use Rattle.phylip.specs.PlaceLaws.{begins-within}
use Rattle.phylip.specs.PlaceRowLaws.{at_place, no_place, place_at, place_none, ends_more, ends-stops, ends-done, nexts-more, nexts-none, rest-next}
use Rattle.phylip.proofs.form.values_end.Goals as goal

pub loop-k-init : goal.loop-k-init
loop-k-init c =
    let n = c.args.n in
    let e : n - 0 ≡ n = omega arith in
    rw e (refl, refl)

pub returns-in_err-at : goal.returns-in_err-at
returns-in_err-at c = rw c.from_residual.ensures (no_place _ _ _ (c.loop-k.invariant.0 ∙ ends-stops _ _ (omega arith) (place_none _ _ _ _ c.in_err-at.ensures refl)))

pub loop-k-preserved : goal.loop-k-preserved
loop-k-preserved c =
    let n = c.args.n in
    let k = c.loop-k._k in
    let v = c.loop-k.invariant in
    let h = place_at _ _ _ _ c.in_ok-at.ensures _ refl in
    let e : n - k - 1 ≡ n - (k + 1) = omega arith in (
      v.0 ∙ (rw (← h.1, e) at (ends_more (rest c.args.f.now c.loop-k.at) (n - k) (omega arith) h.0)),
      v.1 ∙ (rw (← h.1, e) at (nexts-more (rest c.args.f.now c.loop-k.at) (n - k) (omega arith))),
    )

pub returns-then-not-has_byte : goal.returns-then-not-has_byte
returns-then-not-has_byte c =
    no_place _ _ _ (c.loop-k.invariant.0 ∙ ends-done _ _ (omega arith) ∙ sym c.has_byte.ensures ∙ c.if-not-has_byte.true)

pub overflow_add-result : goal.overflow_add-result
overflow_add-result c = let h = begins-within _ _ _ (sym c.has_byte.ensures ∙ c.if-not-has_byte.false) in omega arith

pub returns : goal.returns
returns c =
    let l = c.loop-k in
    let e = sym c.has_byte.ensures ∙ c.if-not-has_byte.false in
    at_place _ _ _ _ (l.invariant.0 ∙ ends-done _ _ (omega arith) ∙ e) (rest-next _ _ _ e ∙ ap (drop 1) (sym (l.invariant.1 ∙ nexts-none _ _ (omega arith))))
