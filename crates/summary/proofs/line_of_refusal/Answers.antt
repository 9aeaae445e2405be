-- `summary::line_of_refusal` meets its contract: each return is a law. Assumes nothing.
use mathlib.Core.Path.{refl}
use Rattle.std.proofs.lemmas.Result.{err_from_is_err_and}
use Rattle.summary.specs.CallLaws.{refusal-past, refusal-given, refusal-short}
use Rattle.summary.proofs.line_of_refusal.Goals as goal

pub returns-then-from-ne0 : goal.returns-then-from-ne0
returns-then-from-ne0 c = let a = c.args in refusal-past a.why a.from a.out.now c.if-from-ne0.true

pub returns : goal.returns
returns c =
    let a = c.args in
    let n = c.refusal_number in
    refusal-given a.why a.from a.out.now c.if-from-ne0.false n.result n.ensures _ _ c.in_ok-n.ensures _ refl

pub returns-in_err-n : goal.returns-in_err-n
returns-in_err-n c =
    let a = c.args in
    let n = c.refusal_number in
    let p = err_from_is_err_and c.from_residual.result c.from_residual.ensures.1 in
    rw (p.1, p.2) (refusal-short a.why a.from a.out.now c.if-from-ne0.false n.result n.ensures _ _ c.in_err-n.ensures _ refl)
