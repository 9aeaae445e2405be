use mathlib.Core.Path.{◌≡◌}
use native.Mathlib.Omega.{arith}
use Rattle.layout.specs.Store.{splits_held_at}
use Rattle.colliding.specs.PlacedLaws.{head_at, held-most}
use Rattle.colliding.specs.CollisionLaws.{row_below, numbered_more}
use Rattle.colliding.proofs.list_by_number.Goals as goal

pub splits_held-held-requires : goal.splits_held-held-requires
splits_held-held-requires c = (head_at _ c.requires.s_value).head-there

pub loop-k-init : goal.loop-k-init
loop-k-init c = (omega arith, c.splits_held-held.ensures.value, omega (arith, held-most _ c.requires.s_value, c.splits_held-held.ensures.value), c.requires.numbered)

pub row_of-row-requires : goal.row_of-row-requires
row_of-row-requires c = record { head_at = head_at _ c.requires.s_value; k_bound = omega arith }

pub offset_bounds-rows-row : goal.offset_bounds-rows-row
offset_bounds-rows-row c = omega (arith, held-most _ c.requires.s_value, row_below _ c.requires.s_value c.loop-k.k _ (omega arith) c.row_of-row.ensures)

pub bounds-rows-row : goal.bounds-rows-row
bounds-rows-row c = omega (arith, held-most _ c.requires.s_value, row_below _ c.requires.s_value c.loop-k.k _ (omega arith) c.row_of-row.ensures)

pub identifier_at-requires : goal.identifier_at-requires
identifier_at-requires c = record { head_at = head_at _ c.requires.s_value; row_bound = row_below _ c.requires.s_value c.loop-k.k _ (omega arith) c.row_of-row.ensures }

pub loop-k-preserved : goal.loop-k-preserved
loop-k-preserved c =
    let l = c.loop-k in
    (omega arith, l.invariant.1, l.invariant.2, numbered_more _ c.requires.s_value _ _ _ l.k _ _ c.requires.placed l.invariant.3 (omega arith) c.row_of-row.ensures c.identifier_at.ensures)

pub returns : goal.returns
returns c =
    let l = c.loop-k in
    let e : l.k ≡ splits_held_at c.args.s.now = omega arith in
    rw e at l.invariant.3
