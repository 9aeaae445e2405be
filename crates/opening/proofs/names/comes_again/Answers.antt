use mathlib.Core.Path.{refl, sym, ap, ◌∙◌}
use mathlib.Core.List.{[]}
use native.Mathlib.Omega.{arith}
use Rattle.trees.specs.Plain.{same_bytes}
use Rattle.head.specs.Head.{name_at}
use Rattle.head.specs.HeadLaws.{up_to-length, up_to-at}
use Rattle.opening.specs.Places.{first_names}
use Rattle.opening.specs.NameTestLaws.{again-here, again-next, again-end}
use Rattle.opening.proofs.names.comes_again.Goals as goal

pub loop-j-init : goal.loop-j-init
loop-j-init c = (omega arith, refl)

pub same_names-requires : goal.same_names-requires
same_names-requires c = record { head_bytes_in_bounds = omega arith; i_bound = omega arith; j_bound = omega arith }

pub returns-then-same_names : goal.returns-then-same_names
returns-then-same_names c =
    let a = c.args in
    let l = c.loop-j in
    let n = up_to-length (name_at a.s.now) a.n in
    let w = name_at a.s.now a.i in
    let e = ap (λ v. same_bytes v w) (up_to-at (name_at a.s.now) a.n l.j [] (omega arith)) ∙ sym c.same_names.ensures ∙ c.if-same_names.true in
    sym (l.invariant.1 ∙ again-here (first_names a.n a.s.now) l.j w (omega arith) e)

pub loop-j-preserved : goal.loop-j-preserved
loop-j-preserved c =
    let a = c.args in
    let l = c.loop-j in
    let n = up_to-length (name_at a.s.now) a.n in
    let w = name_at a.s.now a.i in
    let e = ap (λ v. same_bytes v w) (up_to-at (name_at a.s.now) a.n l.j [] (omega arith)) ∙ sym c.same_names.ensures ∙ c.if-same_names.false in
    (omega arith, l.invariant.1 ∙ again-next (first_names a.n a.s.now) l.j w (omega arith) e)

pub returns : goal.returns
returns c =
    let a = c.args in
    let l = c.loop-j in
    let n = up_to-length (name_at a.s.now) a.n in
    sym (l.invariant.1 ∙ again-end (first_names a.n a.s.now) l.j (name_at a.s.now a.i) (omega arith))
