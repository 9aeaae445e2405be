use mathlib.Core.Path.{◌≡◌}
use native.Mathlib.Omega.{arith}
use Rattle.layout.specs.Store.{parts_at}
use Rattle.layout.specs.WholeFacts.{whole-at-facts}
use Rattle.recording.specs.NewLaws.{new-most, filled_none, filled-found, filled-missing}
use Rattle.recording.proofs.finding.find_rows.Goals as goal
use Rattle.recording.proofs.finding.find_rows.Goals.{in-Some, in-None}

pub splits_held-held-requires : goal.splits_held-held-requires
splits_held-held-requires c = (whole-at-facts _ c.requires.s_value).head.head-there

pub loop-j-init : goal.loop-j-init
loop-j-init c = (omega arith, filled_none _ _ _)

pub place_of-requires : goal.place_of-requires
place_of-requires c = omega (arith, c.requires.splits_of.reach)

pub mask_of-requires : goal.mask_of-requires
mask_of-requires c = omega (arith, c.requires.splits_of.reach)

pub find_row-found-requires : goal.find_row-found-requires
find_row-found-requires c = record { s_value = c.requires.s_value; p_value = rw (c.place_of.ensures, c.mask_of.ensures) (c.requires.splits_of.placed _ (omega arith)) }

pub offset_bounds-rows-j : goal.offset_bounds-rows-j
offset_bounds-rows-j c = omega (arith, c.requires.splits_of.few)

pub overflow_add-rows : goal.overflow_add-rows
overflow_add-rows c =
    let l = c.loop-j in
    omega (arith, c.requires.splits_of.few, l.invariant.1.counted, new-most (parts_at c.args.s.now) c.args.records.now l.j)

pub offset_bounds-rows-j-in-None : goal.offset_bounds-rows-j-in-None
offset_bounds-rows-j-in-None c = omega (arith, c.requires.splits_of.few)

pub overflow_add-new : goal.overflow_add-new
overflow_add-new c =
    let l = c.loop-j in
    omega (arith, c.requires.splits_of.few, l.invariant.1.counted, new-most (parts_at c.args.s.now) c.args.records.now l.j)

pub loop-j-preserved : goal.loop-j-preserved
loop-j-preserved c =
    let v = c.loop-j.invariant.1 in
    let f = rw c.mask_of.ensures at c.find_row-found.ensures in
    elim c.match-found.branch [
      | in-Some w ↦ (omega arith, filled-found _ c.requires.s_value _ _ _ _ _ v (omega arith) _ f _ _ _ w.in-Some.is w.rows-is w.new-is)
      | in-None w ↦ (omega arith, filled-missing _ c.requires.s_value _ _ _ _ _ v (omega arith) _ f _ _ _ (omega arith) w.in-None.is w.rows-is w.new-is)
    ]

pub shape_of-rows : goal.shape_of-rows
shape_of-rows c = c.loop-j.invariant.1.same_length

pub returns : goal.returns
returns c =
    let e : c.loop-j.j ≡ c.args.n = omega arith in
    let f = c.loop-j.invariant.1 in record { rows_of = record { reach = omega (arith, f.same_length, c.requires.n_in_bounds); each = rw e at f.each }; value = rw e at f.counted }
