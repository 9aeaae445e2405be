-- `clib::given::reached` meets its contract. Assumes nothing.
use Rattle.clib.specs.AnswersLaws.{summed-refused, summed-line, summed-texts}
use Rattle.clib.proofs.given.reached.Goals as goal

pub returns-in-Refused : goal.returns-in-Refused
returns-in-Refused c = summed-refused _ _ _ c.refusal_number.ensures c.in-Refused.is

pub returns-in-Line : goal.returns-in-Line
returns-in-Line c = summed-line _ _ c.in-Line.is

pub returns-in-Texts : goal.returns-in-Texts
returns-in-Texts c = summed-texts _ _ c.in-Texts.is
