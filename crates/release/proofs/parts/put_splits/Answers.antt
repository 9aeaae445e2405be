use native.Mathlib.Omega.{arith}
use Rattle.rows.specs.ReadLaws.{long}
use Rattle.putting.specs.PutLaws.{putting-start, putting-more, putting-end}
use Rattle.release.specs.ReleaseLaws.{splits-none, splits-all, splits-few, split-more, split-end}
use Rattle.release.proofs.parts.put_splits.Goals as goal

pub returns-then-not-wanted : goal.returns-then-not-wanted
returns-then-not-wanted c = record { put = splits-none _ (c.if-not-wanted.true); upper_bound = omega arith }

pub splits_held-n-requires : goal.splits_held-n-requires
splits_held-n-requires c = long _ c.requires.s_value

pub loop-k-init : goal.loop-k-init
loop-k-init c = (omega arith, c.splits_held-n.ensures.value, omega arith, putting-start _ _ _)

pub put_split-e-requires : goal.put_split-e-requires
put_split-e-requires c =
    let l = c.loop-k.invariant in
    let t = c.loop-k-test.true in record { s_value = c.requires.s_value; k_bound = omega (arith, l.1, t); at_bound = omega (arith, l.1, l.2, t, c.requires.at_bound, splits-few _ c.requires.s_value) }

pub loop-k-preserved : goal.loop-k-preserved
loop-k-preserved c =
    let l = c.loop-k in
    let t = c.loop-k-test.true in
    (omega (arith, t), l.invariant.1, omega (arith, l.invariant.2, c.put_split-e.ensures.upper_bound), putting-more l.invariant.3 (split-more _ c.requires.s_value l.k (omega (arith, l.invariant.1, t))) c.put_split-e.ensures.put)

pub shape_of-out : goal.shape_of-out
shape_of-out c = c.loop-k.invariant.3.room

pub returns : goal.returns
returns c =
    let l = c.loop-k in
    let w = c.requires.s_value in
    let f = c.loop-k-test.false in record { put = splits-all _ (c.if-not-wanted.false) (putting-end l.invariant.3 (split-end _ w l.k (omega (arith, l.invariant.1, f)))); upper_bound = omega (arith, l.invariant.0, l.invariant.1, l.invariant.2, splits-few _ w) }
