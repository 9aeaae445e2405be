-- `comparing::collisions` meets its contract. Assumes nothing.
use Rattle.answers.specs.AnswerLaws.{number-refused, number-given}
use Rattle.opening.specs.GivenLaws.{failed, passed}
use Rattle.store.specs.LentLaws.{not-whole}
use Rattle.comparing.specs.CompareLaws.{collisions-found}
use Rattle.comparing.proofs.collisions.Goals as goal

pub returns-then-not-is_whole : goal.returns-then-not-is_whole
returns-then-not-is_whole c = number-refused _ _ (not-whole _ _ (failed _ _ c.is_whole.ensures c.if-not-is_whole.true-raw))

pub collision_number-pairs-requires : goal.collision_number-pairs-requires
collision_number-pairs-requires c = passed _ _ c.is_whole.ensures c.if-not-is_whole.false-raw

pub returns : goal.returns
returns c = number-given _ _ _ (collisions-found _ (passed _ _ c.is_whole.ensures c.if-not-is_whole.false-raw)) c.collision_number-pairs.ensures
