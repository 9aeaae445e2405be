-- `table::questions::split_count` meets its contract. Assumes nothing.
use Rattle.answers.specs.AnswerLaws.{number-refused, number-given}
use Rattle.opening.specs.GivenLaws.{failed, passed}
use Rattle.store.specs.LentLaws.{not-whole}
use Rattle.rows.specs.ReadLaws.{long}
use Rattle.table.specs.QuestionLaws.{splits-given}
use Rattle.table.proofs.questions.split_count.Goals as goal

pub returns-then-not-is_whole : goal.returns-then-not-is_whole
returns-then-not-is_whole c = number-refused _ _ (not-whole _ _ (failed _ _ c.is_whole.ensures c.if-not-is_whole.true-raw))

pub splits_held-splits-requires : goal.splits_held-splits-requires
splits_held-splits-requires c = long _ (passed _ _ c.is_whole.ensures c.if-not-is_whole.false-raw)

pub returns : goal.returns
returns c = number-given _ _ _ (splits-given _ (passed _ _ c.is_whole.ensures c.if-not-is_whole.false-raw)) c.splits_held-splits.ensures.value
