-- `lanes::extend_lane` meets its contract: one law for each of its two ends. Assumes nothing.
use Prim.Native.Nat.{◌+◌}
use mathlib.Core.Path.{ap, ◌∙◌}
use mathlib.Core.Bool.{Bool}
use native.Mathlib.Omega.{arith}
use lib.ListN.{length}
use borrow.Author.Tests.{leb-true}
use Rattle.trees.specs.Text.{open_after}
use Rattle.trees.specs.Held.{most_text}
use Rattle.opening.specs.GivenLaws.{failed, passed}
use Rattle.lanes.specs.LaneLaws.{lane-few, lane-end}
use Rattle.lanes.specs.LaneWritingLaws.{runs-over, holds_more}
use Rattle.lanes.proofs.extend_lane.Goals as goal

pub returns-then-not-has_room : goal.returns-then-not-has_room
returns-then-not-has_room c =
    runs-over _ c.requires.s_value _ c.requires.l_bound (λ i. omega (arith, c.slice_known-1.given i)) _ _ c.lane_length-n.ensures.value
    (failed _ _ c.has_room.ensures c.if-not-has_room.true-raw) _
    (c.open_after.ensures ∙ ap (λ (x : Bool). open_after x c.args.piece.now) c.quotes_open-quoted.ensures) c.run_over.ensures

pub lane_from-from-requires : goal.lane_from-from-requires
lane_from-from-requires c = lane-few _ c.requires.s_value _ c.requires.l_bound

pub copy_from-requires : goal.copy_from-requires
copy_from-requires c = let fits = leb-true (c.lane_length-n.result + length c.args.piece.now) most_text (passed _ _ c.has_room.ensures c.if-not-has_room.false-raw) in record { n_in_bounds = omega (arith, c.lane_from-from.ensures.value, fits, lane-end _ c.requires.s_value _ c.requires.l_bound); n_in_bounds_2 = omega arith }

pub overflow_cast-n : goal.overflow_cast-n
overflow_cast-n c = omega (arith, leb-true (c.lane_length-n.result + length c.args.piece.now) most_text (passed _ _ c.has_room.ensures c.if-not-has_room.false-raw))

pub put16-requires : goal.put16-requires
put16-requires c = omega (arith, c.lane_from-from.ensures.value, lane-end _ c.requires.s_value _ c.requires.l_bound)

pub returns : goal.returns
returns c =
    holds_more _ c.requires.s_value _ c.requires.l_bound (λ i. omega (arith, c.slice_known-1.given i)) _ _ c.lane_length-n.ensures.value
    (passed _ _ c.has_room.ensures c.if-not-has_room.false-raw) _ c.lane_from-from.ensures.value c.copy_from.ensures c.put16.ensures
