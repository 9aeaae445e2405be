use Prim.Native.Nat.{◌≤◌}
use native.Mathlib.Omega.{arith}
use mathlib.Core.Path.{sym, ap, ◌∙◌}
use mathlib.Core.Bool.{not}
use Rattle.nexus.specs.KeyLaws.{differ-not, differ-next, differ-end}
use Rattle.nexus.proofs.keys.repeats.Goals as goal

pub comes_again-requires : goal.comes_again-requires
comes_again-requires c = record { placed = c.requires; i_lt_n = c.loop-i-test.true }

pub returns-then-comes_again : goal.returns-then-comes_again
returns-then-comes_again c =
    let l = c.loop-i in
    sym (ap not (l.invariant ∙ differ-not _ _ _ _ c.loop-i-test.true _ c.comes_again.ensures c.if-comes_again.true))

pub loop-i-preserved : goal.loop-i-preserved
loop-i-preserved c =
    let l = c.loop-i in
    l.invariant ∙ differ-next _ _ _ _ c.loop-i-test.true _ c.comes_again.ensures c.if-comes_again.false

pub returns : goal.returns
returns c =
    let h : c.args.n ≤ c.loop-i.i = omega arith in
    sym (ap not (c.loop-i.invariant ∙ differ-end _ _ _ _ h))
