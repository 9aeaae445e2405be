use Prim.Native.Nat.{◌+◌}
use mathlib.Core.Path.{refl, sym, ap, ◌∙◌}
use mathlib.Core.List.{[]}
use native.Mathlib.Omega.{arith}
use lib.ListN.{drop}
use Rattle.trees.specs.Plain.{in_names}
use Rattle.head.specs.Head.{name_at}
use Rattle.head.specs.HeadLaws.{up_to-length, up_to-at}
use Rattle.opening.specs.Places.{first_names}
use Rattle.opening.specs.NameTestLaws.{different-more, different-not, different-end}
use Rattle.opening.proofs.names.all_different.Goals as goal

pub loop-i-init : goal.loop-i-init
loop-i-init c = (omega arith, refl)

pub comes_again-requires : goal.comes_again-requires
comes_again-requires c = record { head_bytes_in_bounds = omega arith; n_bound = omega arith; i_lt_n = omega arith }

pub returns-then-comes_again : goal.returns-then-comes_again
returns-then-comes_again c =
    let a = c.args in
    let ns = first_names a.n a.s.now in
    let l = c.loop-i in
    let n = up_to-length (name_at a.s.now) a.n in
    let e = ap (λ w. in_names w (drop (l.i + 1) ns)) (up_to-at (name_at a.s.now) a.n l.i [] (omega arith)) ∙ sym c.comes_again.ensures ∙ c.if-comes_again.true in
    sym (l.invariant.1 ∙ different-not ns l.i (omega arith) e)

pub loop-i-preserved : goal.loop-i-preserved
loop-i-preserved c =
    let a = c.args in
    let ns = first_names a.n a.s.now in
    let l = c.loop-i in
    let n = up_to-length (name_at a.s.now) a.n in
    let e = ap (λ w. in_names w (drop (l.i + 1) ns)) (up_to-at (name_at a.s.now) a.n l.i [] (omega arith)) ∙ sym c.comes_again.ensures ∙ c.if-comes_again.false in
    (omega arith, l.invariant.1 ∙ different-more ns l.i (omega arith) e)

pub returns : goal.returns
returns c =
    let a = c.args in
    let l = c.loop-i in
    let n = up_to-length (name_at a.s.now) a.n in
    sym (l.invariant.1 ∙ different-end (first_names a.n a.s.now) l.i (omega arith))
