use Prim.Native.Nat.{◌+◌}
use native.Mathlib.Omega.{arith}
use mathlib.Core.Path.{◌≡◌}
use Rattle.withdrawing.specs.MovedLaws.{renamed-none}
use Rattle.withdrawing.proofs.RenameLaws.{has-name, more}
use Rattle.withdrawing.proofs.columns.rename.Goals as goal

pub loop-j-init : goal.loop-j-init
loop-j-init c = (record { long = c.requires.n_in_bounds; named = c.requires.named; few = c.requires.add_bound }, omega arith, renamed-none _ _ _ _)

pub overflow_mul-at : goal.overflow_mul-at
overflow_mul-at c = omega (arith, c.loop-j.invariant.0.long)

pub overflow_add-at : goal.overflow_add-at
overflow_add-at c = omega (arith, c.loop-j.invariant.0.long)

pub get16-requires : goal.get16-requires
get16-requires c = let v = c.loop-j.invariant in omega (arith, v.0.long, v.2.size)

pub overflow_add-x : goal.overflow_add-x
overflow_add-x c = omega (arith, c.loop-j.invariant.0.few)

pub offset_bounds-entries-x : goal.offset_bounds-entries-x
offset_bounds-entries-x c = omega (arith, c.loop-j.invariant.0.few)

pub bounds-entries-x : goal.bounds-entries-x
bounds-entries-x c =
    let l = c.loop-j in
    (has-name l.invariant.0 l.j (omega arith) l.s l.invariant.2 _ c.get16.ensures).0

pub overflow_cast-add : goal.overflow_cast-add
overflow_cast-add c = omega (arith, c.loop-j.invariant.0.few)

pub overflow_sub-entries : goal.overflow_sub-entries
overflow_sub-entries c =
    let l = c.loop-j in
    (has-name l.invariant.0 l.j (omega arith) l.s l.invariant.2 _ c.get16.ensures).1

pub put16-requires : goal.put16-requires
put16-requires c = let v = c.loop-j.invariant in omega (arith, v.0.long, v.2.size)

pub loop-j-preserved : goal.loop-j-preserved
loop-j-preserved c =
    let l = c.loop-j in
    let small = c.type_inv.entries (c.get16.result + c.args.add) in (
      l.invariant.0,
      omega arith,
      rw c.put16.ensures (more l.invariant.0 l.j (omega arith) l.s l.invariant.2 _ c.get16.ensures (omega (arith, small))),
    )

pub shape_of-s : goal.shape_of-s
shape_of-s c = c.loop-j.invariant.2.size

pub returns : goal.returns
returns c =
    let e : c.loop-j.j ≡ c.args.n = omega arith in
    rw e at c.loop-j.invariant.2
