use Prim.Native.Nat.{◌+◌}
use mathlib.Core.Path.{refl, sym, ap, ◌∙◌}
use mathlib.Core.Bool.{Bool}
use native.Mathlib.Omega.{arith}
use lib.ListN.{drop}
use Rattle.trees.specs.Text.{open_after}
use Rattle.text.proofs.PieceLaws.{open_step, open_none}
use Rattle.text.proofs.ends.open_after.Goals as goal

pub loop-i-init : goal.loop-i-init
loop-i-init c = (omega arith, refl)

pub loop-i-preserved : goal.loop-i-preserved
loop-i-preserved c =
    let l = c.loop-i in
    let p = c.args.piece.now in
    (omega arith, ap (λ (x : Bool). open_after x (drop (l.i + 1) p)) c.turned-inside.ensures ∙ sym (open_step p l.i l.inside (omega arith)) ∙ l.invariant.1)

pub returns : goal.returns
returns c =
    let l = c.loop-i in
    sym (open_none c.args.piece.now l.i l.inside (omega arith)) ∙ l.invariant.1
