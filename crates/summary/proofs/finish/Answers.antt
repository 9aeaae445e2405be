-- `summary::finish` meets its contract: each return is a law. Assumes nothing.
use Rattle.summary.specs.CallLaws.{finished-line, finished-texts, finished-refused}
use Rattle.summary.proofs.finish.Goals as goal

pub returns-in-Line : goal.returns-in-Line
returns-in-Line c = finished-line _ _ _ _ c.in-Line.is _ _ c.finish_names.ensures

pub returns-in-Texts : goal.returns-in-Texts
returns-in-Texts c = finished-texts _ _ _ _ c.in-Texts.is _ _ c.close_texts.ensures

pub returns-in-Refused : goal.returns-in-Refused
returns-in-Refused c = finished-refused _ _ _ _ c.in-Refused.is
