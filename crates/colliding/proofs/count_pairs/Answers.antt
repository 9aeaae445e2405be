use Prim.Native.Nat.{◌-◌}
use mathlib.Core.Path.{◌≡◌, ap}
use native.Mathlib.Omega.{arith}
use Rattle.colliding.specs.Collisions.{pairs_from}
use Rattle.colliding.specs.CollisionLaws.{count_most, pairs-more, pairs-done}
use Rattle.colliding.proofs.count_pairs.Goals as goal

pub loop-k-init : goal.loop-k-init
loop-k-init c =
    let a = c.args in
    let e : a.n - 0 ≡ a.n = omega arith in
    (omega arith, omega (arith, ap (pairs_from a.places.now a.identifiers.now 0) e), omega arith)

pub overflow_add-sum : goal.overflow_add-sum
overflow_add-sum c = omega (arith, count_most _ _ _ _ c.count_alike-sum.ensures)

pub loop-k-preserved : goal.loop-k-preserved
loop-k-preserved c =
    let a = c.args in
    let l = c.loop-k in
    let p = pairs-more a.places.now a.identifiers.now l.k a.n (omega arith) in
    let e = c.count_alike-sum.ensures in
    (omega arith, omega (arith, p, e, l.invariant.1), omega (arith, count_most _ _ _ _ e, l.invariant.2))

pub returns : goal.returns
returns c =
    let a = c.args in
    let l = c.loop-k in
    omega (arith, pairs-done a.places.now a.identifiers.now l.k a.n (omega arith), l.invariant.1)
