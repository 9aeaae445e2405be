-- `feeding::verdicts::finish_text` meets its contract: 6, the text's own refusal, or the tree if there is room. Assumes nothing.
use mathlib.Core.Path.{refl, ◌∙◌}
use native.Mathlib.Omega.{arith}
use Rattle.std.proofs.lemmas.Result.{err_from_is_err_and}
use Rattle.answers.specs.Answers.{refusal_number, progress_given}
use Rattle.lanes.specs.LaneLaws.{lane-overrun, lane-holding}
use Rattle.feeding.specs.JudgingLaws.{judged-refused, judged-gives, splits_of_lem, lengths-of, tree-given}
use Rattle.feeding.specs.FinishLaws.{verdict-over, verdict-refused, verdict-room, opening-kept, accepts-size, finish-refused, finish-room}
use Rattle.feeding.proofs.verdicts.finish_text.Goals as goal

pub shape_of-s-then-n-gt-MOST_TEXT : goal.shape_of-s-then-n-gt-MOST_TEXT
shape_of-s-then-n-gt-MOST_TEXT c = c.empty_lane.ensures.size

pub returns-then-n-gt-MOST_TEXT : goal.returns-then-n-gt-MOST_TEXT
unfolding progress_given refusal_number
returns-then-n-gt-MOST_TEXT c =
    let o = lane-overrun _ c.requires.s_value _ c.requires.l_bound _ c.lane_length-n.ensures.value c.if-n-gt-MOST_TEXT.true in
    finish-refused _ _ c.requires.l_bound _ c.empty_lane.ensures _ 6 (verdict-over _ _ _ o) refl

pub judge_lane-judged-requires : goal.judge_lane-judged-requires
judge_lane-judged-requires c = let n = c.lane_length-n.ensures.upper_bound in record { s_value = c.requires.s_value; l_bound = c.requires.l_bound; indexed = c.requires.indexed; n_le_most_text = omega (arith, n, c.if-n-gt-MOST_TEXT.false); most_words_in_bounds = (omega arith, omega arith) }

pub accept-requires : goal.accept-requires
accept-requires c =
    let b = judged-gives _ _ _ _ _ _ _ c.judge_lane-judged.ensures _ c.in_ok-k.was in
    let l = c.empty_lane-2.ensures in
    let o = opening-kept _ _ _ _ l in record { s_value = l.whole; splits_of = splits_of_lem _ _ _ b.0 _ _ _ _ _ c.requires.s_value o b.1 b.2 b.3 b.4; lengths_of = lengths-of _ _ _ b.0 _ _ _ _ _ c.requires.s_value o b.1 b.2 b.3 b.4 }

pub shape_of-s-in_err-k : goal.shape_of-s-in_err-k
shape_of-s-in_err-k c = c.empty_lane-2.ensures.size

pub returns-in_err-k : goal.returns-in_err-k
unfolding progress_given
returns-in_err-k c =
    let v = judged-refused _ _ _ _ _ _ _ c.judge_lane-judged.ensures _ c.in_err-k.was in
    let t = lane-holding _ c.requires.s_value _ c.requires.l_bound _ c.lane_length-n.ensures.value c.if-n-gt-MOST_TEXT.false in
    let p = err_from_is_err_and c.from_residual.result c.from_residual.ensures.1 in
    rw (p.1, p.2) (finish-refused _ _ c.requires.l_bound _ c.empty_lane-2.ensures _ _ (verdict-refused _ _ _ _ t v) refl)

pub shape_of-s : goal.shape_of-s
shape_of-s c = accepts-size _ _ _ _ c.accept.ensures ∙ c.empty_lane-2.ensures.size

pub returns : goal.returns
returns c =
    let b = judged-gives _ _ _ _ _ _ _ c.judge_lane-judged.ensures _ c.in_ok-k.was in
    let t = lane-holding _ c.requires.s_value _ c.requires.l_bound _ c.lane_length-n.ensures.value c.if-n-gt-MOST_TEXT.false in
    let l = c.empty_lane-2.ensures in
    let g = tree-given _ _ _ b.0 _ _ _ _ _ c.requires.s_value (opening-kept _ _ _ _ l) b.1 b.2 b.3 b.4 in
    finish-room _ _ c.requires.l_bound _ l b.0 _ _ _ g (verdict-room _ _ _ _ t b.1) c.accept.ensures
