-- `lanes::empty_lane` meets its contract: the length is made 0. Assumes nothing.
use native.Mathlib.Omega.{arith}
use Rattle.lanes.specs.LaneLaws.{lane-few, lane-end}
use Rattle.lanes.specs.LaneWritingLaws.{emptied}
use Rattle.lanes.proofs.empty_lane.Goals as goal

pub lane_from-requires : goal.lane_from-requires
lane_from-requires c = lane-few _ c.requires.s_value _ c.requires.l_bound

pub put16-requires : goal.put16-requires
put16-requires c = omega (arith, c.lane_from.ensures.value, lane-end _ c.requires.s_value _ c.requires.l_bound)

pub returns : goal.returns
returns c =
    rw (c.put16.ensures, c.lane_from.ensures.value)
    (emptied _ c.requires.s_value _ c.requires.l_bound (λ i. omega (arith, c.slice_known-1.given i)))
