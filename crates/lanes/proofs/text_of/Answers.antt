-- `lanes::text_of` meets its contract: the bytes behind the lane's first 8. Assumes nothing.
use Prim.Native.Nat.{◌+◌, ◌-◌}
use mathlib.Core.Path.{◌≡◌}
use native.Mathlib.Omega.{arith}
use Rattle.lanes.specs.LaneLaws.{lane-few, lane-end}
use Rattle.lanes.proofs.text_of.Goals as goal

pub lane_from-from-requires : goal.lane_from-from-requires
lane_from-from-requires c = lane-few _ c.requires.s_value _ c.requires.l_bound

pub slice_bounds-result-end : goal.slice_bounds-result-end
slice_bounds-result-end c = omega (arith, c.lane_from-from.ensures.value, c.requires.n_le_most_text, lane-end _ c.requires.s_value _ c.requires.l_bound)

pub returns : goal.returns
returns c =
    let f = c.lane_from-from.result in
    let n = c.args.n in
    let e : f + 8 + n - (f + 8) ≡ n = omega arith in
    rw (e, c.lane_from-from.ensures.value)
