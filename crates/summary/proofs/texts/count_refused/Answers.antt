use native.Mathlib.Omega.{arith}
use Rattle.summary.specs.TextsLaws.{verdict-refused, verdict-accepted, verdicts-none}
use Rattle.summary.proofs.texts.count_refused.Goals as goal
use Rattle.summary.proofs.texts.count_refused.Goals.{else-verdict-lt256, then-verdict-lt256}

pub loop-verdict-init : goal.loop-verdict-init
loop-verdict-init c = (omega arith, omega arith, omega arith)

pub loop-verdict-preserved : goal.loop-verdict-preserved
loop-verdict-preserved c =
    let l = c.loop-verdict in
    let v = c.args.verdicts.now in
    elim c.if-verdict-lt256.branch [
      | then-verdict-lt256 q ↦ let e = verdict-refused v l.verdict-index (omega arith) q.if-verdict-lt256.true in (omega arith, omega (arith, q.count-is), omega (arith, q.count-is, e, l.invariant.2))
      | else-verdict-lt256 q ↦ let e = verdict-accepted v l.verdict-index (omega arith) q.if-verdict-lt256.false in (omega arith, omega (arith, q.count-is), omega (arith, q.count-is, e, l.invariant.2))
    ]

pub returns : goal.returns
returns c =
    let l = c.loop-verdict in
    omega (arith, verdicts-none c.args.verdicts.now l.verdict-index (omega arith), l.invariant.2)
