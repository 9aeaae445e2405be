-- `summary::take` meets its contract: each return is a law. Assumes nothing.
use Rattle.summary.specs.CallLaws.{took-line, took-texts, took-refused}
use Rattle.summary.proofs.take.Goals as goal

pub returns-in-Line : goal.returns-in-Line
returns-in-Line c = took-line _ _ _ _ _ c.in-Line.is _ _ _ c.take_names.ensures

pub returns-in-Texts : goal.returns-in-Texts
returns-in-Texts c = took-texts _ _ _ _ _ c.in-Texts.is _ _ c.feed.ensures

pub returns-in-Refused : goal.returns-in-Refused
returns-in-Refused c = took-refused _ _ _ _ _ c.in-Refused.is
