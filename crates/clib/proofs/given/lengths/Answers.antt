-- `clib::given::lengths` meets its contract. Assumes nothing.
use Rattle.clib.specs.AnswersLaws.{lengths-refused, lengths-given}
use Rattle.clib.proofs.given.lengths.Goals as goal

pub returns-in-Err : goal.returns-in-Err
returns-in-Err c = lengths-refused _ _ _ c.refusal_number.ensures c.in-Err.is

pub returns-in-Ok : goal.returns-in-Ok
returns-in-Ok c = lengths-given _ _ c.in-Ok.is
