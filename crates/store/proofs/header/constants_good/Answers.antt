use Rattle.std.proofs.Common.{ltb, get_or, sym, refl, ◌∙◌, arith, le-ltb, lt-ltb}
use Rattle.head.specs.Head.{numbers_at, first_at}
use Rattle.head.specs.HeadLaws.{first-length, first-at}
use Rattle.opening.specs.GivenLaws.{every_more, every-not, every-none}
use Rattle.store.specs.HeaderLaws.{constants-first}
use Rattle.store.proofs.header.constants_good.Goals as goal

pub loop-i-init : goal.loop-i-init
loop-i-init c = (omega arith, c.taxa-taxa.ensures.value, refl)

pub returns-then-places-first_constant : goal.returns-then-places-first_constant
returns-then-places-first_constant c =
    let s = c.args.s.now in
    let l = c.loop-i in
    let n = first-length s in
    let e = first-at s l.i (omega arith) ∙ sym c.first_constant.ensures.value in
    sym (constants-first s (λ i. omega (arith, c.type_inv.s i))
    ∙ l.invariant.2
    ∙ every-not (λ x. ltb x (numbers_at s).places) (first_at s) 0 l.i (omega arith) (le-ltb (get_or (first_at s) l.i 0) _ (omega arith)))

pub loop-i-preserved : goal.loop-i-preserved
loop-i-preserved c =
    let s = c.args.s.now in
    let l = c.loop-i in
    let n = first-length s in
    let e = first-at s l.i (omega arith) ∙ sym c.first_constant.ensures.value in (
      omega arith,
      l.invariant.1,
      l.invariant.2 ∙ every_more (λ x. ltb x (numbers_at s).places) (first_at s) 0 l.i (omega arith) (lt-ltb (get_or (first_at s) l.i 0) _ (omega arith)),
    )

pub returns : goal.returns
returns c =
    let s = c.args.s.now in
    let l = c.loop-i in
    let n = first-length s in
    sym (constants-first s (λ i. omega (arith, c.type_inv.s i))
    ∙ l.invariant.2
    ∙ every-none (λ x. ltb x (numbers_at s).places) (first_at s) 0 l.i (omega arith))
