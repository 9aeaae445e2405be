-- `clib::given::number` meets its contract. Assumes nothing.
use Rattle.clib.specs.AnswersLaws.{number-refused, number-given}
use Rattle.clib.proofs.given.number.Goals as goal

pub returns-in-Err : goal.returns-in-Err
returns-in-Err c = number-refused _ _ _ c.refusal_number.ensures c.in-Err.is

pub returns-in-Ok : goal.returns-in-Ok
returns-in-Ok c = number-given _ _ c.in-Ok.is
