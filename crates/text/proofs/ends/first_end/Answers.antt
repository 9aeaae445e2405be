use Prim.Native.Nat.{◌+◌}
use mathlib.Core.Path.{sym, ap, ◌∙◌}
use mathlib.Core.Bool.{Bool}
use native.Mathlib.Omega.{arith}
use lib.ListN.{length, drop}
use Rattle.trees.specs.Text.{before_end}
use Rattle.text.proofs.PieceLaws.{end-here, end_more, end_none}
use Rattle.text.proofs.ends.first_end.Goals as goal

pub loop-i-init : goal.loop-i-init
loop-i-init c = (omega arith, omega arith)

pub returns-then-ends_text : goal.returns-then-ends_text
returns-then-ends_text c =
    let l = c.loop-i in
    let p = c.args.piece.now in
    let e = end-here p l.i l.quoted (omega arith) (sym c.ends_text.ensures ∙ c.if-ends_text.true) in record { value = omega (arith, e, l.invariant.1); upper_bound = omega arith }

pub loop-i-preserved : goal.loop-i-preserved
loop-i-preserved c =
    let l = c.loop-i in
    let p = c.args.piece.now in
    let e = end_more p l.i l.quoted (omega arith) (sym c.ends_text.ensures ∙ c.if-ends_text.false) in
    let t = ap (λ (x : Bool). length (before_end x (drop (l.i + 1) p))) c.turned-quoted.ensures in
    (omega arith, omega (arith, e, t, l.invariant.1))

pub returns : goal.returns
returns c =
    let l = c.loop-i in
    let e = end_none c.args.piece.now l.i l.quoted (omega arith) in record { value = omega (arith, e, l.invariant.1); upper_bound = omega arith }
