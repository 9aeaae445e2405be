-- `table::branches::with_length` meets its contract. Assumes nothing.
use mathlib.Core.Path.{◌∙◌, sym}
use Rattle.theorems.specs.ListLaws.{if-true, if-false}
use Rattle.table.proofs.branches.with_length.Goals as goal

pub returns-then-met : goal.returns-then-met
returns-then-met c = c.add_sum.ensures ∙ sym (if-true _ _ c.if-met.true)

pub returns : goal.returns
returns c = c.first_sum.ensures ∙ sym (if-false _ _ c.if-met.false)
