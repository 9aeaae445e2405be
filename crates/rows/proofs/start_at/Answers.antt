-- `rows::start_at` meets its contract. Assumes nothing.
use mathlib.Core.Path.{sym, ◌∙◌}
use native.Mathlib.Omega.{arith}
use Rattle.layout.specs.StoreLaws.{start_is}
use Rattle.layout.specs.InsideLaws.{places-few, start-inside}
use Rattle.rows.proofs.start_at.Goals as goal

pub places_from-requires : goal.places_from-requires
places_from-requires c = c.requires.head_at.head-there

pub overflow_mul-p : goal.overflow_mul-p
overflow_mul-p c = omega (arith, c.requires.p_bound, places-few _ c.requires.head_at)

pub overflow_add-places_from : goal.overflow_add-places_from
overflow_add-places_from c = omega (arith, c.requires.p_bound, places-few _ c.requires.head_at, c.places_from.ensures.upper_bound)

pub number16-requires : goal.number16-requires
number16-requires c = omega (arith, start-inside _ c.requires.head_at _ c.requires.p_bound, c.places_from.ensures.value)

pub returns : goal.returns
returns c = c.number16.ensures.value ∙ rw c.places_from.ensures.value (sym (start_is _ _ c.requires.p_bound))
