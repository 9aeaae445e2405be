-- `opening::constants_good` meets its contract: the definition, one list after the other. Assumes nothing.
use mathlib.Core.Path.{sym, ◌∙◌}
use native.Mathlib.Omega.{arith}
use Rattle.opening.specs.GivenLaws.{constants-not-first, constants-not-second, constants-below}
use Rattle.opening.proofs.constants_good.Goals as goal

pub returns-then-first-n : goal.returns-then-first-n
returns-then-first-n c = λ _ _ _ _. sym (constants-not-first _ _ _ c.if-first-n.true)

pub returns-then-second-n : goal.returns-then-second-n
returns-then-second-n c = λ _ _ _ _. sym (constants-not-second _ _ _ c.if-first-n.false c.if-second-n.true)

pub returns : goal.returns
returns c =
    λ _ _ _ _.
    (rw c.from.ensures at c.all_below.ensures)
    ∙ sym (constants-below _ _ c.args.second.now c.if-first-n.false c.if-second-n.false (λ i. omega (arith, c.type_inv.second i)))
