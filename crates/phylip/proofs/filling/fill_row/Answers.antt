use Prim.Native.Nat.{◌+◌, ◌-◌}
use native.Mathlib.Omega.{arith}
use mathlib.Core.Path.{◌≡◌, refl, sym, ◌∙◌}
use lib.ListN.{length-set}
use Rattle.phylip.specs.PlaceRowLaws.{nexts-more, nexts-none}
use Rattle.phylip.specs.FillingLaws.{values-more, values-done, are-first, are-more, value-most}
use Rattle.phylip.proofs.filling.fill_row.Goals as goal

pub loop-j-init : goal.loop-j-init
loop-j-init c =
    let n = c.args.n in
    let k = c.args.k in
    let e : k + n - k ≡ n = omega arith in
    rw e (refl, omega arith, c.requires.i_value, refl, refl)

pub overflow_cast-out : goal.overflow_cast-out
overflow_cast-out c =
    let m = value-most _ (are-first _ _ (omega arith) c.loop-j.invariant.2) in
    omega (arith, c.value_at-v.ensures.is, m)

pub loop-j-preserved : goal.loop-j-preserved
loop-j-preserved c =
    let a = c.args in
    let l = c.loop-j in
    let h = c.value_at-v.ensures in
    let e : a.k + a.n - l.j - 1 ≡ a.k + a.n - (l.j + 1) = omega arith in (
      simp length-set l.invariant.0,
      omega arith,
      rw (h.behind, ← e) (are-more _ _ (omega arith) l.invariant.2),
      l.invariant.3 ∙ nexts-more _ _ (omega arith) ∙ rw (h.behind, e),
      l.invariant.4 ∙ (rw e at (values-more a.f.now l.out l.at l.j (a.k + a.n - l.j) c.value_at-v.result (omega arith) h)),
    )

pub shape_of-out : goal.shape_of-out
shape_of-out c = c.loop-j.invariant.0

pub returns : goal.returns
returns c =
    let l = c.loop-j in
    record { behind = sym (l.invariant.3 ∙ nexts-none _ _ (omega arith)); filled = sym (l.invariant.4 ∙ values-done _ _ _ _ (omega arith)) }
