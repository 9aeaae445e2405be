-- `clib::given::two` meets its contract. Assumes nothing.
use Rattle.clib.specs.AnswersLaws.{two-refused, two-given}
use Rattle.clib.proofs.given.two.Goals as goal

pub returns-in-Err : goal.returns-in-Err
returns-in-Err c = two-refused _ _ _ c.refusal_number.ensures c.in-Err.is

pub returns-in-Ok : goal.returns-in-Ok
returns-in-Ok c = two-given _ _ _ c.in-Ok.is
