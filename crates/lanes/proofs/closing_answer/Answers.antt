-- `lanes::closing_answer` meets its contract: one law for each answer. Assumes nothing.
use native.Mathlib.Omega.{arith}
use Rattle.opening.specs.GivenLaws.{failed, passed}
use Rattle.lanes.specs.LaneLaws.{lane-few, lane-end}
use Rattle.lanes.specs.ClosingLaws.{closing-over, closing-full, closing-done}
use Rattle.lanes.proofs.closing_answer.Goals as goal

pub returns-then-n-gt-MOST_TEXT : goal.returns-then-n-gt-MOST_TEXT
returns-then-n-gt-MOST_TEXT c = closing-over _ _ c.requires.l_bound c.requires.s_value _ c.lane_length-n.ensures.value c.if-n-gt-MOST_TEXT.true

pub lane_from-b-requires : goal.lane_from-b-requires
lane_from-b-requires c = lane-few _ c.requires.s_value _ c.requires.l_bound

pub slice_bounds-all_blanks-end : goal.slice_bounds-all_blanks-end
slice_bounds-all_blanks-end c = omega (arith, c.lane_from-b.ensures.value, c.lane_length-n.ensures.upper_bound, c.if-n-gt-MOST_TEXT.false, lane-end _ c.requires.s_value _ c.requires.l_bound)

pub returns-then-not-all_blanks : goal.returns-then-not-all_blanks
returns-then-not-all_blanks c =
    closing-full _ _ c.requires.l_bound c.requires.s_value _ c.lane_length-n.ensures.value c.if-n-gt-MOST_TEXT.false _ c.lane_from-b.ensures.value
    (failed _ _ c.all_blanks.ensures c.if-not-all_blanks.true-raw)

pub returns : goal.returns
returns c =
    closing-done _ _ c.requires.l_bound c.requires.s_value _ c.lane_length-n.ensures.value c.if-n-gt-MOST_TEXT.false _ c.lane_from-b.ensures.value
    (passed _ _ c.all_blanks.ensures c.if-not-all_blanks.false-raw)
