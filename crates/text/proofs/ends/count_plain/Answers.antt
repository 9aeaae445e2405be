use mathlib.Core.Bool.{false}
use native.Mathlib.Omega.{arith}
use Rattle.text.proofs.PieceLaws.{texts-none, plain_here, plain_more}
use Rattle.text.proofs.ends.count_plain.Goals as goal
use Rattle.text.proofs.ends.count_plain.Goals.{else-block-i-eq-SEMICOLON, then-block-i-eq-SEMICOLON}

pub loop-i-init : goal.loop-i-init
loop-i-init c = (omega arith, omega arith, omega arith)

pub loop-i-preserved : goal.loop-i-preserved
loop-i-preserved c =
    let l = c.loop-i in
    let p = c.args.block.now in
    elim c.if-block-i-eq-SEMICOLON.branch [
      | then-block-i-eq-SEMICOLON z ↦ let e = plain_here p l.i (omega arith) z.if-block-i-eq-SEMICOLON.true in (omega arith, omega (arith, z.n-is, l.invariant.1), omega (arith, z.n-is, e, l.invariant.2))
      | else-block-i-eq-SEMICOLON z ↦ let e = plain_more p l.i (omega arith) c.requires.block_value z.if-block-i-eq-SEMICOLON.false in (omega arith, omega (arith, z.n-is, l.invariant.1), omega (arith, z.n-is, e, l.invariant.2))
    ]

pub returns : goal.returns
returns c =
    let l = c.loop-i in
    let e = texts-none c.args.block.now l.i false (omega arith) in record { value = omega (arith, e, l.invariant.2); upper_bound = omega (arith, l.invariant.0, l.invariant.1) }
