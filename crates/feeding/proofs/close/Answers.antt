-- `feeding::close` meets its contract: each return is a law. Assumes nothing.
use native.Mathlib.Omega.{arith}
use Rattle.opening.specs.GivenLaws.{failed, passed}
use Rattle.layout.specs.WholeFacts.{whole-at-facts}
use Rattle.feeding.specs.ClosingLaws.{close-not-whole, close-no-lane, close-lane}
use Rattle.feeding.proofs.close.Goals as goal

pub returns-then-not-is_whole : goal.returns-then-not-is_whole
returns-then-not-is_whole c = close-not-whole _ _ (failed _ _ c.is_whole.ensures c.if-not-is_whole.true-raw)

pub lanes-requires : goal.lanes-requires
lanes-requires c = (whole-at-facts _ (passed _ _ c.is_whole.ensures c.if-not-is_whole.false-raw)).head.head-there

pub returns-then-lanes-l : goal.returns-then-lanes-l
returns-then-lanes-l c = close-no-lane _ _ (passed _ _ c.is_whole.ensures c.if-not-is_whole.false-raw) (omega arith)

pub closing_answer-answer-requires : goal.closing_answer-answer-requires
closing_answer-answer-requires c = record { s_value = passed _ _ c.is_whole.ensures c.if-not-is_whole.false-raw; l_bound = omega arith }

pub empty_lane-requires : goal.empty_lane-requires
empty_lane-requires c = record { s_value = passed _ _ c.is_whole.ensures c.if-not-is_whole.false-raw; l_bound = omega arith }

-- the lane is emptied; what closing answers was asked before
pub returns : goal.returns
returns c =
    let w = passed _ _ c.is_whole.ensures c.if-not-is_whole.false-raw in
    close-lane _ _ w (omega arith) _ _ c.closing_answer-answer.ensures c.empty_lane.ensures
