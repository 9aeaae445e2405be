use native.Mathlib.Omega.{arith}
use mathlib.Core.Path.{refl, sym, ◌∙◌}
use Rattle.drawing.specs.CountLaws.{search-here, search-next, search-end}
use Rattle.drawing.proofs.branch.count_of.Goals as goal

pub loop-j-init : goal.loop-j-init
loop-j-init c = (omega arith, refl)

pub returns-then-is_same : goal.returns-then-is_same
returns-then-is_same c =
    let l = c.loop-j in
    c.from.ensures ∙ sym (l.invariant.1 ∙ search-here _ _ _ l.j (omega arith) (omega arith) (sym c.is_same.ensures ∙ c.if-is_same.true))

pub loop-j-preserved : goal.loop-j-preserved
loop-j-preserved c =
    let l = c.loop-j in
    (omega arith, l.invariant.1 ∙ search-next _ _ _ l.j (omega arith) (omega arith) (sym c.is_same.ensures ∙ c.if-is_same.false))

pub returns : goal.returns
returns c =
    let l = c.loop-j in
    sym (l.invariant.1 ∙ search-end _ _ _ l.j (omega arith))
