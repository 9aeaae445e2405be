-- `rows::mask_at` meets its contract. Assumes nothing.
use mathlib.Core.Path.{sym, ◌∙◌}
use native.Mathlib.Omega.{arith}
use Rattle.layout.specs.StoreLaws.{mask_is}
use Rattle.layout.specs.InsideLaws.{splits-few, mask-inside}
use Rattle.rows.proofs.mask_at.Goals as goal

pub masks_from-requires : goal.masks_from-requires
masks_from-requires c = c.requires.head_at.head-there

pub overflow_mul-row : goal.overflow_mul-row
overflow_mul-row c = omega (arith, c.requires.row_bound, splits-few _ c.requires.head_at)

pub overflow_add-masks_from : goal.overflow_add-masks_from
overflow_add-masks_from c = omega (arith, c.requires.row_bound, splits-few _ c.requires.head_at, c.masks_from.ensures.upper_bound)

pub get64-requires : goal.get64-requires
get64-requires c = omega (arith, mask-inside _ c.requires.head_at _ c.requires.row_bound, c.masks_from.ensures.value)

pub returns : goal.returns
returns c = c.get64.ensures ∙ rw c.masks_from.ensures.value (sym (mask_is _ _ c.requires.row_bound))
