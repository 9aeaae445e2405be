use Prim.Native.Nat.{◌*◌}
use native.Mathlib.Omega.{arith}
use mathlib.Core.Path.{refl}
use lib.ListN.{length-set}
use Rattle.nexus.specs.KeyLaws.{found-below}
use Rattle.nexus.specs.NamingLaws.{naming-none, naming-more, naming-done, naming-over}
use Rattle.nexus.proofs.keyed.name_leaves.Goals as goal

pub loop-j-init : goal.loop-j-init
loop-j-init c = (naming-none _ _ _ _ _, omega arith, refl)

pub overflow_cast-b : goal.overflow_cast-b
overflow_cast-b c =
    let p = c.requires.k_le_most_keyed.1 in
    omega (arith, p.begins c.loop-j.j c.loop-j-test.true, p.ends c.loop-j.j c.loop-j-test.true)

pub overflow_cast-e : goal.overflow_cast-e
overflow_cast-e c =
    let p = c.requires.k_le_most_keyed.1 in
    omega (arith, p.ends c.loop-j.j c.loop-j-test.true)

pub find_key-requires : goal.find_key-requires
find_key-requires c = let below = c.loop-j-test.true in record { placed = c.requires.placed; indexed = c.requires.indexed; b_le_e = c.requires.k_le_most_keyed.1.begins _ below; e_in_bounds = c.requires.k_le_most_keyed.1.ends _ below }

pub shape_of-names-in_err-p : goal.shape_of-names-in_err-p
shape_of-names-in_err-p c = c.loop-j.invariant.2

pub returns-in_err-p : goal.returns-in_err-p
returns-in_err-p c = rw c.from_residual.ensures (naming-over _ _ _ _ _ _)

pub name_at-name-requires : goal.name_at-name-requires
name_at-name-requires c =
    let p = c.requires.placed in
    omega (arith, p.reach, found-below _ _ _ _ _ c.in_ok-p.ensures)

pub shape_of-names-then-name-gt65535 : goal.shape_of-names-then-name-gt65535
shape_of-names-then-name-gt65535 c = c.loop-j.invariant.2

pub returns-then-name-gt65535 : goal.returns-then-name-gt65535
returns-then-name-gt65535 c = naming-over _ _ _ _ _ _

pub overflow_sub-bytes : goal.overflow_sub-bytes
overflow_sub-bytes c = omega (arith, c.loop-j.invariant.0.few)

pub overflow_sub-name : goal.overflow_sub-name
overflow_sub-name c =
    let p = c.requires.placed in
    let f = c.in_ok-p.ensures in
    let t = c.name_at-name.ensures in
    let n = p.names _ (found-below _ _ _ _ _ f) in
    omega (arith, t.0, t.1, n.0)

pub shape_of-names-then-bytes-name : goal.shape_of-names-then-bytes-name
shape_of-names-then-bytes-name c = c.loop-j.invariant.2

pub returns-then-bytes-name : goal.returns-then-bytes-name
returns-then-bytes-name c = naming-over _ _ _ _ _ _

pub overflow_cast-names : goal.overflow_cast-names
overflow_cast-names c =
    let p = c.requires.placed in
    let f = c.in_ok-p.ensures in
    let t = c.name_at-name.ensures in
    let n = p.names _ (found-below _ _ _ _ _ f) in
    omega (arith, t.0, t.1, n.0, c.if-name-gt65535.false)

pub bounds-names-j : goal.bounds-names-j
bounds-names-j c = omega (arith, c.loop-j.invariant.2)

pub overflow_cast-names-in-loop-j : goal.overflow_cast-names-in-loop-j
overflow_cast-names-in-loop-j c = omega (arith, c.if-name-gt65535.false)

pub bounds-names-j-in-loop-j : goal.bounds-names-j-in-loop-j
bounds-names-j-in-loop-j c = omega (arith, c.loop-j.invariant.2, length-set c.loop-j.names (2 * c.loop-j.j) c.name_at-name.result.from)

pub overflow_sub-bytes-in-loop-j : goal.overflow_sub-bytes-in-loop-j
overflow_sub-bytes-in-loop-j c =
    let p = c.requires.placed in
    let f = c.in_ok-p.ensures in
    let t = c.name_at-name.ensures in
    let n = p.names _ (found-below _ _ _ _ _ f) in
    omega (arith, t.0, t.1, n.0)

pub overflow_add-bytes : goal.overflow_add-bytes
overflow_add-bytes c = omega (arith, c.loop-j.invariant.0.few)

pub loop-j-preserved : goal.loop-j-preserved
loop-j-preserved c =
    let v = c.loop-j.invariant in
    let below = c.loop-j-test.true in
    let p = c.requires.placed in
    let k = c.requires.k_le_most_keyed.1 in
    let f = c.in_ok-p.ensures in
    let t = c.name_at-name.ensures in
    let n = p.names _ (found-below _ _ _ _ _ f) in (
      naming-more _ _ _ _ _ _ _ _ v.0 (omega (arith, v.2, c.requires.k_le_most_keyed, c.requires.most_keyed_in_bounds)) _ _ refl refl (k.begins _ below) _ f _ _ t.0 t.1
          (omega (arith, t.0, t.1, n.0)) (omega (arith, t.1, n.1)) (omega (arith, c.if-bytes-name.false)),
      omega arith,
      simp length-set v.2,
    )

pub shape_of-names : goal.shape_of-names
shape_of-names c = c.loop-j.invariant.2

pub returns : goal.returns
returns c = naming-done _ _ _ _ _ _ _ _ c.loop-j.invariant.0 (omega arith)
