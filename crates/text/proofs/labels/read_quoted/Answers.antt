use native.Mathlib.Omega.{arith}
use mathlib.Core.Path.{refl, sym, ◌∙◌}
use Rattle.text.specs.LabelsLaws.{quote-drops, quote-keeps, quoted-end, reading-start, reading-left, reading-more, reading-full, reading-end}
use Rattle.text.proofs.labels.read_quoted.Goals as goal

pub loop-i-init : goal.loop-i-init
loop-i-init c = (omega arith, reading-start _ _ _ _)

pub loop-i-preserved-then-closes : goal.loop-i-preserved-then-closes
loop-i-preserved-then-closes c =
    let l = c.loop-i in
    let a = c.args in
    (omega arith, reading-left l.invariant.1 (quote-drops a.text.now l.i a.e l.inside (omega arith) (omega arith) (sym c.closes.ensures ∙ c.if-closes.true)))

pub shape_of-out-then-n-most : goal.shape_of-out-then-n-most
shape_of-out-then-n-most c = c.loop-i.invariant.1.room

pub returns-then-n-most : goal.returns-then-n-most
returns-then-n-most c =
    let l = c.loop-i in
    let a = c.args in
    let k = sym c.closes.ensures ∙ c.if-closes.false in
    reading-full l.invariant.1 (quote-keeps a.text.now l.i a.e l.inside _ (omega arith) (omega arith) k refl) c.if-n-most.true

pub overflow_add-out : goal.overflow_add-out
overflow_add-out c = omega (arith, c.loop-i.invariant.1.within)

pub bounds-out-at : goal.bounds-out-at
bounds-out-at c = let r = c.loop-i.invariant.1 in omega (arith, r.within, r.room)

pub overflow_add-n : goal.overflow_add-n
overflow_add-n c = omega (arith, c.loop-i.invariant.1.within)

pub loop-i-preserved : goal.loop-i-preserved
loop-i-preserved c =
    let l = c.loop-i in
    let a = c.args in
    let k = sym c.closes.ensures ∙ c.if-closes.false in
    (omega arith, reading-more l.invariant.1 (quote-keeps a.text.now l.i a.e l.inside _ (omega arith) (omega arith) k c.turned-inside.ensures) c.if-n-most.false)

pub shape_of-out : goal.shape_of-out
shape_of-out c = c.loop-i.invariant.1.room

pub returns : goal.returns
returns c =
    let l = c.loop-i in
    reading-end l.invariant.1 (quoted-end _ l.i _ _ l.invariant.0 (omega arith))
