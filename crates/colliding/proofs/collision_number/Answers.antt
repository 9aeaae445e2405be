-- `colliding::collision_number` meets its contract. Assumes nothing.
use mathlib.Core.Path.{ap, ◌∙◌}
use native.Mathlib.Omega.{arith}
use Rattle.colliding.specs.Collisions.{pairs_from}
use Rattle.colliding.specs.PlacedLaws.{head_at, held-most, placed-none}
use Rattle.colliding.specs.CollisionLaws.{numbered-none, collisions-counted}
use Rattle.colliding.proofs.collision_number.Goals as goal

pub note_places-requires : goal.note_places-requires
note_places-requires c = record { s_value = c.requires; placed = placed-none _ }

pub list_by_number-requires : goal.list_by_number-requires
list_by_number-requires c = record { s_value = c.requires; placed = c.note_places.ensures; numbered = numbered-none _ }

pub splits_held-requires : goal.splits_held-requires
splits_held-requires c = (head_at _ c.requires).head-there

pub count_pairs-requires : goal.count_pairs-requires
count_pairs-requires c = omega (arith, held-most _ c.requires, c.splits_held.ensures.value)

pub returns : goal.returns
returns c =
    let e = c.list_by_number.ensures in
    c.count_pairs.ensures ∙ ap (pairs_from _ _ 0) c.splits_held.ensures.value ∙ collisions-counted _ _ _ e
