-- `summary::open_texts` meets its contract: each return is a law. Assumes nothing.
use Rattle.summary.specs.CallLaws.{opens-refused, opens-done}
use Rattle.summary.proofs.open_texts.Goals as goal

pub returns-in-Err : goal.returns-in-Err
returns-in-Err c = opens-refused _ _ _ _ c.open_line-answer.ensures _ c.in-Err.is _

pub returns-in-Ok : goal.returns-in-Ok
returns-in-Ok c = opens-done _ _ _ _ c.open_line-answer.ensures c.in-Ok.is _ _ _ c.feed.ensures
