use Prim.Native.Nat.{◌-◌}
use native.Mathlib.Omega.{arith}
use mathlib.Core.Path.{◌≡◌}
use Rattle.layout.specs.InsideLaws.{places-few}
use Rattle.store.specs.ChainLaws.{link-falls}
use Rattle.colliding.specs.PlacedLaws.{head_at, held-most, part-starts, part-more, part-ends}
use Rattle.colliding.proofs.note_place.Goals as goal

pub start_at-entry-requires : goal.start_at-entry-requires
start_at-entry-requires c = record { head_at = head_at _ c.requires.s_value; p_bound = c.requires.p_bound }

pub loop-entry-init : goal.loop-entry-init
loop-entry-init c = part-starts _ c.requires.s_value _ _ _ c.requires.p_bound c.requires.placed c.start_at-entry.ensures

pub overflow_cast-rows : goal.overflow_cast-rows
overflow_cast-rows c = omega (arith, places-few _ (head_at _ c.requires.s_value), c.requires.p_bound)

pub offset_bounds-rows-row : goal.offset_bounds-rows-row
offset_bounds-rows-row c = omega (arith, held-most _ c.requires.s_value, c.loop-entry.invariant.most)

pub bounds-rows-row : goal.bounds-rows-row
bounds-rows-row c = omega (arith, held-most _ c.requires.s_value, c.loop-entry.invariant.most)

pub link_at-entry-requires : goal.link_at-entry-requires
link_at-entry-requires c = record { head_at = head_at _ c.requires.s_value; row_bound = omega (arith, c.loop-entry.invariant.most) }

pub loop-entry-smaller : goal.loop-entry-smaller
loop-entry-smaller c =
    let l = c.loop-entry in
    omega (arith, c.link_at-entry.ensures, link-falls _ c.requires.s_value (l.entry - 1) (omega (arith, l.invariant.most)))

pub loop-entry-preserved : goal.loop-entry-preserved
loop-entry-preserved c = let l = c.loop-entry in part-more _ c.requires.s_value _ _ l.entry (l.entry - 1) _ l.invariant (omega arith) c.link_at-entry.ensures

pub returns : goal.returns
returns c =
    let l = c.loop-entry in
    let z : l.entry ≡ 0 = omega arith in
    part-ends _ _ _ (rw z at l.invariant)
