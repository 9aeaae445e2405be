use Prim.Native.Nat.{◌+◌}
use mathlib.Core.Path.{sym, ap, ◌∙◌}
use mathlib.Core.Bool.{Bool}
use native.Mathlib.Omega.{arith}
use lib.ListN.{drop}
use Rattle.trees.specs.Batch.{texts_in}
use Rattle.text.proofs.PieceLaws.{texts-here, texts-more, texts-none}
use Rattle.text.proofs.ends.count_quoted.Goals as goal
use Rattle.text.proofs.ends.count_quoted.Goals.{else-ends, then-ends}

pub loop-i-init : goal.loop-i-init
loop-i-init c = (omega arith, omega arith, omega arith)

pub loop-i-preserved : goal.loop-i-preserved
loop-i-preserved c =
    let l = c.loop-i in
    let p = c.args.block.now in
    let t = ap (λ (x : Bool). texts_in x (drop (l.i + 1) p)) c.turned-quoted.ensures in
    let s = c.ends_text-ends.ensures in
    elim c.if-ends.branch [
      | then-ends z ↦ let e = texts-here p l.i l.quoted (omega arith) (sym s ∙ z.if-ends.true) in (omega arith, omega (arith, z.n-is, l.invariant.1), omega (arith, z.n-is, e, t, l.invariant.2))
      | else-ends z ↦ let e = texts-more p l.i l.quoted (omega arith) (sym s ∙ z.if-ends.false) in (omega arith, omega (arith, z.n-is, l.invariant.1), omega (arith, z.n-is, e, t, l.invariant.2))
    ]

pub returns : goal.returns
returns c =
    let l = c.loop-i in
    let e = texts-none c.args.block.now l.i l.quoted (omega arith) in record { value = omega (arith, e, l.invariant.2); upper_bound = omega (arith, l.invariant.0, l.invariant.1) }
