-- `rows::identifier_at` meets its contract. Assumes nothing.
use mathlib.Core.Path.{sym, ◌∙◌}
use native.Mathlib.Omega.{arith}
use Rattle.layout.specs.StoreLaws.{identifier-is}
use Rattle.layout.specs.InsideLaws.{splits-few, identifier-inside}
use Rattle.rows.proofs.identifier_at.Goals as goal

pub identifiers_from-requires : goal.identifiers_from-requires
identifiers_from-requires c = c.requires.head_at.head-there

pub overflow_mul-row : goal.overflow_mul-row
overflow_mul-row c = omega (arith, c.requires.row_bound, splits-few _ c.requires.head_at)

pub overflow_add-identifiers_from : goal.overflow_add-identifiers_from
overflow_add-identifiers_from c = omega (arith, c.requires.row_bound, splits-few _ c.requires.head_at, c.identifiers_from.ensures.upper_bound)

pub get64-requires : goal.get64-requires
get64-requires c = omega (arith, identifier-inside _ c.requires.head_at _ c.requires.row_bound, c.identifiers_from.ensures.value)

pub returns : goal.returns
returns c = c.get64.ensures ∙ rw c.identifiers_from.ensures.value (sym (identifier-is _ _ c.requires.row_bound))
