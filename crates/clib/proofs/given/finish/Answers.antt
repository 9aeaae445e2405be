-- `clib::given::finish` meets its contract. Assumes nothing.
use Rattle.clib.specs.AnswersLaws.{finish-refused, finish-done}
use Rattle.clib.proofs.given.finish.Goals as goal

pub returns-in-Err : goal.returns-in-Err
returns-in-Err c = finish-refused _ _ _ c.refusal_number.ensures c.in-Err.is

pub returns-in-Ok : goal.returns-in-Ok
returns-in-Ok c = finish-done _ c.in-Ok.is
