-- `rows::row_in` meets its contract. Assumes nothing.
use mathlib.Core.Path.{sym, ◌∙◌}
use native.Mathlib.Omega.{arith}
use Rattle.layout.specs.StoreLaws.{list_length, list_at_lem}
use Rattle.layout.specs.InsideLaws.{tree-inside}
use Rattle.rows.proofs.row_in.Goals as goal

pub overflow_add-from : goal.overflow_add-from
overflow_add-from c = omega (arith, tree-inside _ c.requires.head_at _ c.requires.i_bound)

pub overflow_add-from-2 : goal.overflow_add-from-2
overflow_add-from-2 c = omega (arith, tree-inside _ c.requires.head_at _ c.requires.i_bound)

pub number16-requires : goal.number16-requires
number16-requires c = omega (arith, tree-inside _ c.requires.head_at _ c.requires.i_bound)

pub returns : goal.returns
returns c = c.number16.ensures.value ∙ rw c.requires.from_value (sym (list_at_lem _ _ c.requires.i_bound _ (omega (arith, list_length _ _ c.requires.i_bound))))
