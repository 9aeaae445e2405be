-- `lanes::lane_length` meets its contract: the number at the lane's front. Assumes nothing.
use native.Mathlib.Omega.{arith}
use mathlib.Core.Path.{◌≡◌, ap, ◌∙◌}
use Rattle.fields.specs.Field.{number}
use Rattle.layout.specs.Store.{lane_from}
use Rattle.lanes.specs.LaneLaws.{lane-few, lane-end, lane-fits}
use Rattle.lanes.proofs.lane_length.Goals as goal

pub lane_from-from-requires : goal.lane_from-from-requires
lane_from-from-requires c = lane-few _ c.requires.s_value _ c.requires.l_bound

pub number16-requires : goal.number16-requires
number16-requires c = omega (arith, c.lane_from-from.ensures.value, lane-end _ c.requires.s_value _ c.requires.l_bound)

pub returns : goal.returns
returns c =
    let f = lane-fits _ c.requires.s_value _ c.requires.l_bound in
    let e : c.number16.result ≡ number 2 c.args.s.now (lane_from c.args.l.0) = c.number16.ensures.value ∙ ap (number 2 c.args.s.now) c.lane_from-from.ensures.value in record { value = e; upper_bound = omega arith }
