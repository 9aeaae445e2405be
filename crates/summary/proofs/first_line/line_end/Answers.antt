use native.Mathlib.Omega.{arith}
use Rattle.summary.specs.FirstLineLaws.{end-here, end_more, end_none}
use Rattle.summary.proofs.first_line.line_end.Goals as goal

pub loop-i-init : goal.loop-i-init
loop-i-init c = (omega arith, omega arith)

pub returns-then-piece-i-eq10 : goal.returns-then-piece-i-eq10
returns-then-piece-i-eq10 c =
    let l = c.loop-i in
    let a = c.args in
    let e = end-here a.piece.now l.i (omega arith) c.if-piece-i-eq10.true in record { value = omega (arith, e, l.invariant.1); upper_bound = omega arith }

pub loop-i-preserved : goal.loop-i-preserved
loop-i-preserved c =
    let l = c.loop-i in
    let a = c.args in
    let e = end_more a.piece.now l.i (omega arith) c.if-piece-i-eq10.false in
    (omega arith, omega (arith, e, l.invariant.1))

pub returns : goal.returns
returns c =
    let l = c.loop-i in
    let a = c.args in
    let e = end_none a.piece.now l.i (omega arith) in record { value = omega (arith, e, l.invariant.1); upper_bound = omega arith }
