use native.Mathlib.Omega.{arith}
use mathlib.Core.Path.{◌≡◌}
use Rattle.withdrawing.specs.MovedLaws.{gathered_none}
use Rattle.withdrawing.proofs.GatherLaws.{there, place, more}
use Rattle.withdrawing.proofs.columns.gather.Goals as goal

pub loop-j-init : goal.loop-j-init
loop-j-init c = (record { long = c.requires.m_in_bounds; within = c.requires.within }, omega arith, gathered_none _ _ _)

pub offset_bounds-rows-j : goal.offset_bounds-rows-j
offset_bounds-rows-j c = omega (arith, c.loop-j.invariant.0.long)

pub bounds-rows-j : goal.bounds-rows-j
bounds-rows-j c = omega (arith, c.loop-j.invariant.0.long)

pub overflow_cast-rows : goal.overflow_cast-rows
overflow_cast-rows c = omega (arith, c.type_inv.rows c.loop-j.j)

pub overflow_mul-width : goal.overflow_mul-width
overflow_mul-width c = let l = c.loop-j in omega (arith, there l.invariant.0 l.j (omega arith))

pub overflow_add-from : goal.overflow_add-from
overflow_add-from c = let l = c.loop-j in omega (arith, there l.invariant.0 l.j (omega arith))

pub overflow_mul-width-in-loop-j : goal.overflow_mul-width-in-loop-j
overflow_mul-width-in-loop-j c = let l = c.loop-j in omega (arith, place l.invariant.0 l.j (omega arith))

pub overflow_add-from-in-loop-j : goal.overflow_add-from-in-loop-j
overflow_add-from-in-loop-j c = let l = c.loop-j in omega (arith, place l.invariant.0 l.j (omega arith))

pub copy_within-requires : goal.copy_within-requires
copy_within-requires c =
    let l = c.loop-j in
    let e = c.loop-j.invariant.2.size in record { n_in_bounds = omega (arith, e, there l.invariant.0 l.j (omega arith)); n_in_bounds_2 = omega (arith, e, place l.invariant.0 l.j (omega arith)) }

pub loop-j-preserved : goal.loop-j-preserved
loop-j-preserved c =
    let l = c.loop-j in
    (l.invariant.0, omega arith, rw c.copy_within.ensures (more l.invariant.0 l.j (omega arith) l.s l.invariant.2))

pub shape_of-s : goal.shape_of-s
shape_of-s c = c.loop-j.invariant.2.size

pub returns : goal.returns
returns c =
    let e : c.loop-j.j ≡ c.args.m = omega arith in
    rw e at c.loop-j.invariant.2
