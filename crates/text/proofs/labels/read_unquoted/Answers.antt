use Rattle.std.proofs.Common.{◌≡◌, ◌+◌, ◌-◌, refl, add-zero, arith}
use Rattle.text.specs.LabelsLaws.{spaced-more, spaced-end, reading-start, reading-more, reading-full, reading-end}
use Rattle.text.proofs.labels.read_unquoted.Goals as goal

pub loop-n-init : goal.loop-n-init
loop-n-init c = rw add-zero (reading-start _ _ _ _)

pub shape_of-out-then-n-most : goal.shape_of-out-then-n-most
shape_of-out-then-n-most c = c.loop-n.invariant.room

pub returns-then-n-most : goal.returns-then-n-most
returns-then-n-most c =
    let l = c.loop-n in
    let a = c.args in
    reading-full l.invariant (spaced-more a.text.now (a.b + l.n) a.e _ (omega arith) (omega arith) refl) c.if-n-most.true

pub overflow_add-out : goal.overflow_add-out
overflow_add-out c = omega (arith, c.loop-n.invariant.within)

pub bounds-out-at : goal.bounds-out-at
bounds-out-at c = let r = c.loop-n.invariant in omega (arith, r.within, r.room)

pub loop-n-preserved : goal.loop-n-preserved
loop-n-preserved c =
    let l = c.loop-n in
    let a = c.args in
    let q : a.b + (l.n + 1) ≡ a.b + l.n + 1 = omega arith in
    rw q (reading-more l.invariant (spaced-more a.text.now (a.b + l.n) a.e _ (omega arith) (omega arith) c.spaced.ensures) c.if-n-most.false)

pub shape_of-out : goal.shape_of-out
shape_of-out c = c.loop-n.invariant.room

pub returns : goal.returns
returns c =
    let l = c.loop-n in
    let a = c.args in
    let q : l.n ≡ a.e - a.b = omega arith in
    rw q at (reading-end l.invariant (spaced-end _ (a.b + l.n) _ (omega arith) (omega arith)))
