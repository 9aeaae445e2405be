-- `summary::feed` meets its contract: each return is a law. Assumes nothing.
use Rattle.summary.specs.CallLaws.{feeds-given, feeds-refused}
use Rattle.summary.proofs.feed.Goals as goal

pub returns-in-Ok : goal.returns-in-Ok
returns-in-Ok c = feeds-given _ _ _ _ _ c.take_texts-answer.ensures _ c.in-Ok.is

pub returns-in-Err : goal.returns-in-Err
returns-in-Err c = feeds-refused _ _ _ _ _ c.take_texts-answer.ensures _ c.in-Err.is
