-- `clib::given::weight` meets its contract. Assumes nothing.
use Rattle.clib.specs.AnswersLaws.{weight-refused, weight-given}
use Rattle.clib.proofs.given.weight.Goals as goal

pub returns-in-Err : goal.returns-in-Err
returns-in-Err c = weight-refused _ _ _ c.refusal_number.ensures c.in-Err.is

pub returns-in-Ok : goal.returns-in-Ok
returns-in-Ok c = weight-given _ _ c.in-Ok.is
