-- `clib::given::split` meets its contract. Assumes nothing.
use Rattle.clib.specs.AnswersLaws.{split-refused, split-given}
use Rattle.clib.proofs.given.split.Goals as goal

pub returns-in-Err : goal.returns-in-Err
returns-in-Err c = split-refused _ _ _ c.refusal_number.ensures c.in-Err.is

pub returns-in-Ok : goal.returns-in-Ok
returns-in-Ok c = split-given _ _ _ c.in-Ok.is
