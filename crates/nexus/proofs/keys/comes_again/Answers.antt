use Prim.Native.Nat.{◌≤◌}
use native.Mathlib.Omega.{arith}
use mathlib.Core.Path.{sym, ◌∙◌}
use Rattle.nexus.specs.KeyLaws.{keys-compared, again-here, again-next, again-end}
use Rattle.nexus.proofs.keys.comes_again.Goals as goal

pub key_at-k-requires : goal.key_at-k-requires
key_at-k-requires c = omega (arith, c.requires.placed.reach)

pub is_key-requires : goal.is_key-requires
is_key-requires c =
    let p = c.requires.placed in
    let h = p.keys c.args.i c.requires.i_lt_n in record { i_in_bounds = omega (arith, p.reach); i_bound = p.keys _ c.loop-j-test.true; b_le_e = omega arith; e_in_bounds = omega arith }

pub returns-then-is_key : goal.returns-then-is_key
returns-then-is_key c =
    let l = c.loop-j in
    let k = c.key_at-k.ensures in
    let a = c.args in
    let q = keys-compared a.list.now a.places.now a.i l.j _ _ _ _ k.0 k.1 c.is_key.ensures c.if-is_key.true in
    sym (l.invariant ∙ again-here _ _ _ _ c.loop-j-test.true _ q)

pub loop-j-preserved : goal.loop-j-preserved
loop-j-preserved c =
    let l = c.loop-j in
    let k = c.key_at-k.ensures in
    let a = c.args in
    let q = keys-compared a.list.now a.places.now a.i l.j _ _ _ _ k.0 k.1 c.is_key.ensures c.if-is_key.false in
    l.invariant ∙ again-next _ _ _ _ c.loop-j-test.true _ q

pub returns : goal.returns
returns c =
    let h : c.args.n ≤ c.loop-j.j = omega arith in
    sym (c.loop-j.invariant ∙ again-end _ _ _ _ h _)
