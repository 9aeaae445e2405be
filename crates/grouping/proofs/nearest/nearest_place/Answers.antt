use native.Mathlib.Omega.{arith}
use mathlib.Core.Path.{sym, ◌∙◌}
use Rattle.grouping.specs.NearestLaws.{place_here, place-next, place_end}
use Rattle.grouping.proofs.nearest.nearest_place.Goals as goal

pub loop-k-init : goal.loop-k-init
loop-k-init c = (omega arith, omega arith)

pub returns-then-has_both : goal.returns-then-has_both
returns-then-has_both c =
    let l = c.loop-k in
    let a = c.args in record { value = omega (arith, l.invariant.1, place_here a.i.0 a.j.0 a.list.now l.k (omega arith) (sym c.has_both.ensures ∙ c.if-has_both.true)); upper_bound = omega arith }

pub loop-k-preserved : goal.loop-k-preserved
loop-k-preserved c =
    let l = c.loop-k in
    let a = c.args in
    (omega arith, omega (arith, l.invariant.1, place-next a.i.0 a.j.0 a.list.now l.k (omega arith) (sym c.has_both.ensures ∙ c.if-has_both.false)))

pub returns : goal.returns
returns c =
    let l = c.loop-k in
    let a = c.args in record { value = omega (arith, l.invariant.1, place_end a.i.0 a.j.0 a.list.now l.k (omega arith)); upper_bound = omega arith }
