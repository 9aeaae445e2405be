-- `summary::lines` meets its contract: each return is a law. Assumes nothing.
use Rattle.summary.specs.CallLaws.{printed-sheet, printed-refusal}
use Rattle.summary.proofs.lines.Goals as goal

pub returns-in-Ok : goal.returns-in-Ok
returns-in-Ok c = printed-sheet _ _ _ _ _ _ _ c.in-Ok.is c.lines.ensures

pub returns-in-Err : goal.returns-in-Err
returns-in-Err c = printed-refusal _ _ _ _ _ _ _ c.in-Err.is c.line_of_refusal.ensures
