use Prim.Native.Nat.{◌-◌}
use native.Mathlib.Omega.{arith}
use Rattle.colliding.specs.Collisions.{alike}
use Rattle.colliding.specs.CollisionLaws.{count-more, count-done, from-most}
use Rattle.colliding.proofs.count_alike.Goals as goal

pub loop-j-init : goal.loop-j-init
loop-j-init c = (omega arith, omega arith)

pub overflow_add-count : goal.overflow_add-count
overflow_add-count c =
    let a = c.args in
    let l = c.loop-j in
    let m = from-most (alike a.places.now a.identifiers.now a.p a.x) a.from (a.n - a.from) in
    omega (arith, m, l.invariant.1, c.one_if_equal-count.ensures.upper_bound)

pub loop-j-preserved : goal.loop-j-preserved
unfolding alike
loop-j-preserved c =
    let a = c.args in
    let l = c.loop-j in
    let m = count-more (alike a.places.now a.identifiers.now a.p a.x) l.j a.n (omega arith) in
    (omega arith, omega (arith, m, l.invariant.1, c.one_if_equal-count.ensures.value))

pub returns : goal.returns
returns c =
    let a = c.args in
    let l = c.loop-j in
    let m = count-done (alike a.places.now a.identifiers.now a.p a.x) l.j a.n (omega arith) in
    omega (arith, m, l.invariant.1)
