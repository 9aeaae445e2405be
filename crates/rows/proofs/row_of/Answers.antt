-- `rows::row_of` meets its contract. Assumes nothing.
use mathlib.Core.Path.{sym, ◌∙◌}
use native.Mathlib.Omega.{arith}
use Rattle.layout.specs.StoreLaws.{order_is}
use Rattle.layout.specs.InsideLaws.{splits-few, order-inside}
use Rattle.rows.proofs.row_of.Goals as goal

pub order_from-requires : goal.order_from-requires
order_from-requires c = c.requires.head_at.head-there

pub overflow_mul-k : goal.overflow_mul-k
overflow_mul-k c = omega (arith, c.requires.k_bound, splits-few _ c.requires.head_at)

pub overflow_add-order_from : goal.overflow_add-order_from
overflow_add-order_from c = omega (arith, c.requires.k_bound, splits-few _ c.requires.head_at, c.order_from.ensures.upper_bound)

pub number16-requires : goal.number16-requires
number16-requires c = omega (arith, order-inside _ c.requires.head_at _ c.requires.k_bound, c.order_from.ensures.value)

pub returns : goal.returns
returns c = c.number16.ensures.value ∙ rw c.order_from.ensures.value (sym (order_is _ _ c.requires.k_bound))
