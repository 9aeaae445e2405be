-- `rows::count_at` meets its contract. Assumes nothing.
use mathlib.Core.Path.{sym, ◌∙◌}
use native.Mathlib.Omega.{arith}
use Rattle.layout.specs.StoreLaws.{count-is}
use Rattle.layout.specs.InsideLaws.{splits-few, count-inside}
use Rattle.rows.proofs.count_at.Goals as goal

pub counts_from-requires : goal.counts_from-requires
counts_from-requires c = c.requires.head_at.head-there

pub overflow_mul-row : goal.overflow_mul-row
overflow_mul-row c = omega (arith, c.requires.row_bound, splits-few _ c.requires.head_at)

pub overflow_add-counts_from : goal.overflow_add-counts_from
overflow_add-counts_from c = omega (arith, c.requires.row_bound, splits-few _ c.requires.head_at, c.counts_from.ensures.upper_bound)

pub get32-requires : goal.get32-requires
get32-requires c = omega (arith, count-inside _ c.requires.head_at _ c.requires.row_bound, c.counts_from.ensures.value)

pub returns : goal.returns
returns c = c.get32.ensures ∙ rw c.counts_from.ensures.value (sym (count-is _ _ c.requires.row_bound))
