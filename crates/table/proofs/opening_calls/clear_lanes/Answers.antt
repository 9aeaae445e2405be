use mathlib.Core.Path.{◌≡◌}
use native.Mathlib.Omega.{arith}
use Rattle.head.specs.Head.{numbers_at}
use Rattle.layout.specs.StoreLaws.{masks-from, size_is}
use Rattle.table.specs.EmptiedLaws.{lanes-none, lane_inside, lanes-more}
use Rattle.table.proofs.opening_calls.clear_lanes.Goals as goal

pub lanes-n-requires : goal.lanes-n-requires
lanes-n-requires c = let s = c.args.s.now in omega (arith, c.requires, masks-from (numbers_at s), size_is s)

pub loop-l-init : goal.loop-l-init
loop-l-init c = (omega arith, c.lanes-n.ensures.value, lanes-none _)

pub lane_from-requires : goal.lane_from-requires
lane_from-requires c = omega (arith, c.lanes-n.ensures.upper_bound)

pub put16-requires : goal.put16-requires
put16-requires c =
    let l = c.loop-l in
    omega (arith, c.lane_from.ensures.value, lane_inside c.args.s.now l.s l.l l.invariant.2 c.requires (omega (arith, l.invariant.1)))

pub loop-l-preserved : goal.loop-l-preserved
loop-l-preserved c =
    let l = c.loop-l in
    let v = c.loop-l.invariant in
    (omega arith, v.1, lanes-more _ _ l.l v.2 c.requires (omega (arith, v.1)) _ _ c.lane_from.ensures.value c.put16.ensures)

pub shape_of-s : goal.shape_of-s
shape_of-s c = c.loop-l.invariant.2.size

pub returns : goal.returns
returns c =
    let v = c.loop-l.invariant in
    let e : c.loop-l.l ≡ (numbers_at c.args.s.now).lanes = omega arith in
    rw e at v.2
