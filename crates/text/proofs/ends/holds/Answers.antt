use mathlib.Core.Path.{refl, sym}
use native.Mathlib.Omega.{arith}
use Rattle.text.proofs.PieceLaws.{found_here, found-more, found_none}
use Rattle.text.proofs.ends.holds.Goals as goal
use Rattle.text.proofs.ends.holds.Goals.{else-block-i, then-block-i}

pub loop-i-init : goal.loop-i-init
loop-i-init c = (omega arith, refl)

pub loop-i-preserved : goal.loop-i-preserved
loop-i-preserved c =
    let l = c.loop-i in
    let a = c.args in
    let p = c.args.block.now in
    elim c.if-block-i.branch [
      | then-block-i q ↦ (omega arith, rw q.found-is (sym (found_here a.b p l.i l.found l.invariant.1 (omega arith) q.if-block-i.true)))
      | else-block-i q ↦ (omega arith, rw q.found-is (found-more a.b p l.i l.found l.invariant.1 (omega arith) q.if-block-i.false))
    ]

pub returns : goal.returns
returns c =
    let l = c.loop-i in
    found_none c.args.b c.args.block.now l.i l.found l.invariant.1 (omega arith)
