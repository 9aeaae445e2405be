-- `clib::given::fed` meets its contract. Assumes nothing.
use mathlib.Core.Path.{◌≡◌}
use Rattle.std.specs.Prelude.{None, Some}
use Rattle.clib.specs.AnswersLaws.{fed-refused, fed-more, fed-accepted}
use Rattle.clib.proofs.given.fed.Goals as goal

pub returns-in-Err : goal.returns-in-Err
returns-in-Err c = fed-refused _ _ _ c.refusal_number.ensures c.in-Err.is

pub returns-in-Ok-None : goal.returns-in-Ok-None
returns-in-Ok-None c =
    let e : c.in-Ok-None.field-0 ≡ None = rw c.in-Ok-None.is at c.in-Ok-None.field-0-is in
    fed-more _ (rw e at c.in-Ok-None.is)

pub returns-in-Ok-Some : goal.returns-in-Ok-Some
returns-in-Ok-Some c =
    let e : c.in-Ok-Some.field-0 ≡ Some c.in-Ok-Some.t = rw c.in-Ok-Some.is at c.in-Ok-Some.field-0-is in
    fed-accepted _ _ (rw e at c.in-Ok-Some.is)
