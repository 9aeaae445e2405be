use native.Mathlib.Omega.{arith}
use Rattle.layout.specs.WholeFacts.{whole-at-facts}
use Rattle.rows.specs.ReadLaws.{long}
use Rattle.consensus.specs.Chosen.{ReadSplit}
use Rattle.consensus.specs.ChooseLaws.{read_below}
use Rattle.grouping.specs.MajorityLaws.{read_small, group-start, group-end, group-few, group-room, group-takes, group-leaves}
use Rattle.grouping.proofs.majority.majority_groups.Goals as goal
use Rattle.grouping.proofs.majority.majority_groups.Goals.{else-least-count, then-least-count}

pub trees_held-requires : goal.trees_held-requires
trees_held-requires c = long _ c.requires.s_value

pub splits_held-held-requires : goal.splits_held-held-requires
splits_held-held-requires c = long _ c.requires.s_value

pub loop-k-init : goal.loop-k-init
loop-k-init c = (omega arith, group-start _ c.requires.s_value _ _)

pub row_of-row-requires : goal.row_of-row-requires
row_of-row-requires c = record { head_at = (whole-at-facts _ c.requires.s_value).head; k_bound = omega arith }

pub count_at-count-requires : goal.count_at-count-requires
count_at-count-requires c = let w = c.requires.s_value in record { head_at = (whole-at-facts _ w).head; row_bound = read_below _ w (omega arith) c.row_of-row.ensures }

pub mask_at-requires : goal.mask_at-requires
mask_at-requires c = let w = c.requires.s_value in record { head_at = (whole-at-facts _ w).head; row_bound = omega (arith, read_below _ w (omega arith) c.row_of-row.ensures) }

pub offset_bounds-masks-n : goal.offset_bounds-masks-n
offset_bounds-masks-n c = omega (arith, group-few _ c.requires.s_value _ _ c.loop-k.invariant.1)

pub bounds-masks-n : goal.bounds-masks-n
bounds-masks-n c =
    let r : ReadSplit c.args.s.now c.loop-k.k _ _ =
    record { held = omega arith; row_is = c.row_of-row.ensures; count-is = c.count_at-count.ensures } in
    omega (arith, group-room _ c.requires.s_value _ _ c.loop-k.invariant.1 r (omega (arith, c.if-least-count.true)), c.loop-k.invariant.1.groups.room)

pub overflow_cast-counts : goal.overflow_cast-counts
overflow_cast-counts c =
    let r : ReadSplit c.args.s.now c.loop-k.k _ _ =
    record { held = omega arith; row_is = c.row_of-row.ensures; count-is = c.count_at-count.ensures } in
    omega (arith, read_small _ c.requires.s_value r)

pub offset_bounds-counts-n : goal.offset_bounds-counts-n
offset_bounds-counts-n c = omega (arith, group-few _ c.requires.s_value _ _ c.loop-k.invariant.1)

pub bounds-counts-n : goal.bounds-counts-n
bounds-counts-n c =
    let r : ReadSplit c.args.s.now c.loop-k.k _ _ =
    record { held = omega arith; row_is = c.row_of-row.ensures; count-is = c.count_at-count.ensures } in
    omega (arith, group-room _ c.requires.s_value _ _ c.loop-k.invariant.1 r (omega (arith, c.if-least-count.true)), c.loop-k.invariant.1.counted.room)

pub overflow_add-n : goal.overflow_add-n
overflow_add-n c = omega (arith, group-few _ c.requires.s_value _ _ c.loop-k.invariant.1)

pub loop-k-preserved : goal.loop-k-preserved
loop-k-preserved c =
    let w = c.requires.s_value in
    let r : ReadSplit c.args.s.now c.loop-k.k _ _ =
    record { held = omega arith; row_is = c.row_of-row.ensures; count-is = c.count_at-count.ensures } in
    elim c.if-least-count.branch [
      | then-least-count t ↦ rw (t.masks-is, t.counts-is, t.n-is) (omega arith, group-takes _ w _ _ c.loop-k.invariant.1 r (omega (arith, t.if-least-count.true)) t.mask_at.ensures)
      | else-least-count t ↦ rw (t.masks-is, t.counts-is, t.n-is) (omega arith, group-leaves _ w _ _ c.loop-k.invariant.1 r (omega (arith, t.if-least-count.false)))
    ]

pub shape_of-masks : goal.shape_of-masks
shape_of-masks c = c.loop-k.invariant.1.groups.room

pub shape_of-counts : goal.shape_of-counts
shape_of-counts c = c.loop-k.invariant.1.counted.room

pub returns : goal.returns
returns c = let g = group-end _ c.requires.s_value _ _ c.loop-k.invariant.1 (omega arith) c.requires.in_bounds c.requires.in_bounds_2 in record { value = g.0; masks_after = g.1; counts_after = g.2 }
