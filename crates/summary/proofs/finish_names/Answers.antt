-- `summary::finish_names` meets its contract: each return is a law. Assumes nothing.
use mathlib.Core.Path.{refl}
use Rattle.std.proofs.lemmas.Result.{err_from_is_err_and}
use Rattle.summary.specs.CallLaws.{closes-refused, closes-done}
use Rattle.summary.proofs.finish_names.Goals as goal

pub returns-in_err-open_line : goal.returns-in_err-open_line
returns-in_err-open_line c =
    let p = err_from_is_err_and c.from_residual.result c.from_residual.ensures.1 in
    rw (p.1, p.2) (closes-refused _ _ _ _ c.in_err-open_line.ensures _ refl)

pub returns : goal.returns
returns c = closes-done _ _ _ _ c.in_ok-open_line.ensures refl _ _ c.close_texts.ensures
