use mathlib.Core.Path.{◌≡◌}
use native.Mathlib.Omega.{arith}
use Rattle.head.specs.Head.{numbers_at}
use Rattle.colliding.specs.PlacedLaws.{head_at}
use Rattle.colliding.proofs.note_places.Goals as goal

pub places-places-requires : goal.places-places-requires
places-places-requires c = (head_at _ c.requires.s_value).head-there

pub loop-p-init : goal.loop-p-init
loop-p-init c = (omega arith, c.places-places.ensures.value, c.requires.placed)

pub note_place-requires : goal.note_place-requires
note_place-requires c = let l = c.loop-p in record { s_value = c.requires.s_value; p_bound = omega arith; placed = l.invariant.2 }

pub loop-p-preserved : goal.loop-p-preserved
loop-p-preserved c = (omega arith, c.loop-p.invariant.1, c.note_place.ensures)

pub returns : goal.returns
returns c =
    let l = c.loop-p in
    let e : l.p ≡ (numbers_at c.args.s.now).places = omega arith in
    rw e at l.invariant.2
