use Rattle.std.proofs.Common.{◌≡◌, sym, arith}
use Rattle.head.specs.Head.{numbers_at}
use Rattle.layout.specs.WholeStore.{good_lane_at}
use Rattle.layout.specs.AllLaws.{all_none, all_more, all-fails}
use Rattle.layout.specs.InsideLaws.{ranges, lane_inside}
use Rattle.store.specs.ListTestLaws.{lane-long, lane-short}
use Rattle.store.proofs.lists.lanes_good.Goals as goal

pub lanes-lanes-requires : goal.lanes-lanes-requires
lanes-lanes-requires c = c.requires.head-there

pub loop-l-init : goal.loop-l-init
loop-l-init c = (omega arith, c.lanes-lanes.ensures.value, all_none (good_lane_at _))

pub lane_from-from-requires : goal.lane_from-from-requires
lane_from-from-requires c = omega (arith, (ranges _ c.requires).most-lanes)

pub number16-requires : goal.number16-requires
number16-requires c =
    let h = lane_inside _ c.requires c.loop-l.l (omega arith) in
    omega (arith, c.lane_from-from.ensures.value)

pub returns-then-number16-gt-RAN_OVER_OPEN : goal.returns-then-number16-gt-RAN_OVER_OPEN
returns-then-number16-gt-RAN_OVER_OPEN c =
    let v = c.loop-l in
    sym (all-fails (good_lane_at _) _ v.l (omega arith) (lane-long _ v.l _ _ (omega arith) c.lane_from-from.ensures.value c.number16.ensures.value c.if-number16-gt-RAN_OVER_OPEN.true))

pub loop-l-preserved : goal.loop-l-preserved
loop-l-preserved c =
    let v = c.loop-l in
    (omega arith, v.invariant.1, all_more (good_lane_at _) _ v.invariant.2 (lane-short _ v.l _ _ (omega arith) c.lane_from-from.ensures.value c.number16.ensures.value (omega arith)))

pub returns : goal.returns
returns c =
    let v = c.loop-l.invariant in
    let e : c.loop-l.l ≡ (numbers_at c.args.s.now).lanes = omega arith in
    sym (rw e at v.2)
