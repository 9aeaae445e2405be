-- `summary::texts::close_texts` meets its contract. Assumes nothing.
use Rattle.opening.specs.GivenLaws.{failed, passed}
use Rattle.summary.specs.TextsLaws.{closed-refused, closed-given}
use Rattle.summary.proofs.texts.close_texts.Goals as goal

pub returns-then-not-is_whole : goal.returns-then-not-is_whole
returns-then-not-is_whole c = closed-refused _ _ (failed _ _ c.is_whole.ensures c.if-not-is_whole.true-raw)

pub returns : goal.returns
returns c =
    let w = passed _ _ c.is_whole.ensures c.if-not-is_whole.false-raw in
    closed-given _ w _ _ _ c.close-answer.ensures _ _ c.one_if_refused.ensures c.add_capped-all.ensures
