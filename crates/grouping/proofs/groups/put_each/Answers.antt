use native.Mathlib.Omega.{arith}
use Rattle.layout.specs.Store.{held_at}
use Rattle.putting.specs.PutLaws.{putting-start, putting-more, putting-end}
use Rattle.grouping.specs.LineLaws.{counted-length, counted-at, line-more, line-end}
use Rattle.grouping.proofs.groups.put_each.Goals as goal

pub loop-k-init : goal.loop-k-init
loop-k-init c = (omega arith, omega arith, putting-start _ _ _)

pub bounds-counts-k : goal.bounds-counts-k
bounds-counts-k c = omega (arith, c.loop-k-test.true, counted-length (held_at c.args.s.now).trees c.args.list.now c.requires.counts_value)

pub put_line-e-requires : goal.put_line-e-requires
put_line-e-requires c = let l = c.loop-k in record { s_value = c.requires.s_value; trees_value = counted-at (held_at c.args.s.now).trees c.args.list.now l.k c.requires.counts_value c.loop-k-test.true; at_bound = omega (arith, l.invariant.1, c.requires.list_len_bound, c.requires.at_bound, c.loop-k-test.true) }

pub loop-k-preserved : goal.loop-k-preserved
loop-k-preserved c =
    let l = c.loop-k in
    (omega (arith, c.loop-k-test.true), omega (arith, l.invariant.1, c.put_line-e.ensures.upper_bound), putting-more l.invariant.2 (line-more _ _ l.k c.loop-k-test.true) c.put_line-e.ensures.put)

pub shape_of-out : goal.shape_of-out
shape_of-out c = c.loop-k.invariant.2.room

pub returns : goal.returns
returns c = let l = c.loop-k in record { put = putting-end l.invariant.2 (line-end _ _ l.k c.loop-k-test.false); upper_bound = omega (arith, l.invariant.0, l.invariant.1) }
