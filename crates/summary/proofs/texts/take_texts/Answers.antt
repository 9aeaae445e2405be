use Prim.Native.Nat.{◌+◌, ◌-◌}
use mathlib.Core.Path.{refl, ◌∙◌}
use native.Mathlib.Omega.{arith}
use Rattle.std.proofs.lemmas.Result.{err_from_is_err_and}
use Rattle.summary.specs.Texts.{part}
use Rattle.summary.specs.PartLaws.{texts-size, rest-none, rest_more, rest-refused, rest-last}
use Rattle.summary.proofs.texts.take_texts.Goals as goal

pub loop-at-init : goal.loop-at-init
loop-at-init c = rest-none _ _ _

pub shape_of-s-in_err-all : goal.shape_of-s-in_err-all
shape_of-s-in_err-all c = texts-size _ _ _ _ _ c.in_err-all.ensures ∙ c.loop-at.invariant.size

pub returns-in_err-all : goal.returns-in_err-all
returns-in_err-all c =
    let at = c.loop-at.at in
    let p = err_from_is_err_and c.from_residual.result c.from_residual.ensures.1 in
    rw (p.1, p.2) (rest-refused _ _ _ _ _ at ((at + part) - at) c.loop-at.invariant _ _ c.in_err-all.ensures _ refl)

pub loop-at-preserved : goal.loop-at-preserved
loop-at-preserved c =
    let at = c.loop-at.at in
    rest_more _ _ _ _ _ at ((at + part) - at) c.loop-at.invariant _ _ c.in_ok-all.ensures _ refl _ (omega arith) (omega arith)

pub shape_of-s : goal.shape_of-s
shape_of-s c = texts-size _ _ _ _ _ c.take_part-2.ensures ∙ c.loop-at.invariant.size

pub returns : goal.returns
returns c = rest-last _ _ _ _ _ _ c.loop-at.invariant _ _ c.take_part-2.ensures
