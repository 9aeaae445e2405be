use mathlib.Core.Path.{refl, sym, ap, ◌∙◌}
use mathlib.Core.List.{[]}
use native.Mathlib.Omega.{arith}
use Rattle.trees.specs.Names.{is_name}
use Rattle.head.specs.Head.{name_at}
use Rattle.head.specs.HeadLaws.{up_to-length, up_to-at}
use Rattle.opening.specs.GivenLaws.{failed, passed, every_more, every-not, every-none}
use Rattle.opening.specs.Places.{first_names}
use Rattle.opening.proofs.names.all_names.Goals as goal

pub loop-i-init : goal.loop-i-init
loop-i-init c = (omega arith, refl)

pub returns-then-not-is_name : goal.returns-then-not-is_name
returns-then-not-is_name c =
    let a = c.args in
    let s = c.args.s.now in
    let l = c.loop-i in
    let n = up_to-length (name_at s) a.n in
    let e = ap is_name (up_to-at (name_at s) a.n l.i [] (omega arith)) ∙ failed _ _ c.is_name.ensures c.if-not-is_name.true-raw in
    sym (l.invariant.1 ∙ every-not is_name (first_names a.n s) [] l.i (omega arith) e)

pub loop-i-preserved : goal.loop-i-preserved
loop-i-preserved c =
    let a = c.args in
    let s = c.args.s.now in
    let l = c.loop-i in
    let n = up_to-length (name_at s) a.n in
    let e = ap is_name (up_to-at (name_at s) a.n l.i [] (omega arith)) ∙ passed _ _ c.is_name.ensures c.if-not-is_name.false-raw in
    (omega arith, l.invariant.1 ∙ every_more is_name (first_names a.n s) [] l.i (omega arith) e)

pub returns : goal.returns
returns c =
    let a = c.args in
    let l = c.loop-i in
    let n = up_to-length (name_at a.s.now) a.n in
    sym (l.invariant.1 ∙ every-none is_name (first_names a.n a.s.now) [] l.i (omega arith))
