use Rattle.std.proofs.Common.{take, sym, refl, ◌∙◌, arith, length-take-le, get_or-take}
use Rattle.trees.specs.Mask.{agree}
use Rattle.opening.specs.GivenLaws.{every_more, every-not, every-none}
use Rattle.splitfile.proofs.choosing.agrees_with.Goals as goal

pub loop-j-init : goal.loop-j-init
loop-j-init c = (omega arith, refl)

pub returns-then-not-agree : goal.returns-then-not-agree
returns-then-not-agree c =
    let l = c.loop-j in
    let a = c.args in
    let p = get_or-take a.k a.list.now l.j 0 (omega arith) in
    sym (l.invariant.1 ∙ every-not (agree a.m) (take a.k a.list.now) 0 l.j (omega (arith, length-take-le a.k a.list.now (omega arith))) (rw p (sym c.agree.ensures ∙ c.if-not-agree.true)))

pub loop-j-preserved : goal.loop-j-preserved
loop-j-preserved c =
    let l = c.loop-j in
    let a = c.args in
    let p = get_or-take a.k a.list.now l.j 0 (omega arith) in
    (omega arith, l.invariant.1 ∙ every_more (agree a.m) (take a.k a.list.now) 0 l.j (omega (arith, length-take-le a.k a.list.now (omega arith))) (rw p (sym c.agree.ensures ∙ c.if-not-agree.false)))

pub returns : goal.returns
returns c =
    let l = c.loop-j in
    let a = c.args in
    sym (l.invariant.1 ∙ every-none (agree a.m) (take a.k a.list.now) 0 l.j (omega (arith, length-take-le a.k a.list.now (omega arith))))
