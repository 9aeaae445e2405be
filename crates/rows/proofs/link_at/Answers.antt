-- `rows::link_at` meets its contract. Assumes nothing.
use mathlib.Core.Path.{sym, ◌∙◌}
use native.Mathlib.Omega.{arith}
use Rattle.layout.specs.StoreLaws.{link-is}
use Rattle.layout.specs.InsideLaws.{splits-few, link-inside}
use Rattle.rows.proofs.link_at.Goals as goal

pub links_from-requires : goal.links_from-requires
links_from-requires c = c.requires.head_at.head-there

pub overflow_mul-row : goal.overflow_mul-row
overflow_mul-row c = omega (arith, c.requires.row_bound, splits-few _ c.requires.head_at)

pub overflow_add-links_from : goal.overflow_add-links_from
overflow_add-links_from c = omega (arith, c.requires.row_bound, splits-few _ c.requires.head_at, c.links_from.ensures.upper_bound)

pub number16-requires : goal.number16-requires
number16-requires c = omega (arith, link-inside _ c.requires.head_at _ c.requires.row_bound, c.links_from.ensures.value)

pub returns : goal.returns
returns c = c.number16.ensures.value ∙ rw c.links_from.ensures.value (sym (link-is _ _ c.requires.row_bound))
