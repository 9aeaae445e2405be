use borrow.Author.Rules.{rules}
use native.Mathlib.Omega.{arith}
use lib.ListN.{length}
use mathlib.Core.Path.{◌≡◌, sym, ◌∙◌}
use Rattle.text.proofs.NumberLaws.{digits-none, digits_more, digits-end, digits-never}
use Rattle.text.proofs.past_digits.Goals as goal

pub returns-then-k-ne0 : goal.returns-then-k-ne0
returns-then-k-ne0 c = digits-never _ _ _ (search rules)

pub loop-d-init : goal.loop-d-init
loop-d-init c = digits-none _ _ (search rules)

pub returns-then-not-is_digit : goal.returns-then-not-is_digit
returns-then-not-is_digit c = digits-end _ _ _ _ c.loop-d.invariant c.if-k-ne0.false

pub loop-d-preserved : goal.loop-d-preserved
loop-d-preserved c = digits_more _ _ _ c.loop-d.invariant (search rules) (sym (c.if-not-is_digit.false) ∙ c.is_digit.ensures)

pub returns : goal.returns
returns c =
    let e : c.loop-d.d ≡ length c.args.text.now = omega arith in
    digits-end _ _ _ _ (rw e at c.loop-d.invariant) c.if-k-ne0.false
