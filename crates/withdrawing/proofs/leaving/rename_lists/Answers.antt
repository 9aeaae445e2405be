use Prim.Native.Nat.{◌+◌, ◌*◌}
use native.Mathlib.Omega.{arith}
use Rattle.trees.specs.Opening.{tree_bytes}
use mathlib.Core.Path.{◌≡◌, refl}
use Rattle.layout.specs.Store.{trees_held_at}
use Rattle.withdrawing.specs.NamingLaws.{lists-none}
use Rattle.withdrawing.proofs.RenameListsLaws.{fits, asks, state-more}
use Rattle.withdrawing.proofs.leaving.rename_lists.Goals as goal

pub trees_held-trees-requires : goal.trees_held-trees-requires
trees_held-trees-requires c = c.requires.head_at.0.head-there

pub tree_from-first-requires : goal.tree_from-first-requires
tree_from-first-requires c = record { head_bytes_in_bounds = c.requires.head_at.0.head-there; i_bound = omega arith }

pub loop-i-init : goal.loop-i-init
loop-i-init c = (
  record { head = c.requires.head_at.0; sound = c.requires.head_at.1; becoming = c.requires.becoming; held = c.trees_held-trees.ensures },
  record { below = omega arith; from_is = omega (arith, c.tree_from-first.ensures.value); named = lists-none _ _; same = refl },
)

pub number16-n-requires : goal.number16-n-requires
number16-n-requires c = let l = c.loop-i in omega (arith, fits l.invariant.0 l.invariant.1 (omega arith))

pub overflow_mul-from : goal.overflow_mul-from
overflow_mul-from c = let l = c.loop-i in omega (arith, fits l.invariant.0 l.invariant.1 (omega arith), l.invariant.1.same)

pub overflow_add-from : goal.overflow_add-from
overflow_add-from c = let l = c.loop-i in omega (arith, fits l.invariant.0 l.invariant.1 (omega arith), l.invariant.1.same)

pub rename-requires : goal.rename-requires
rename-requires c =
    let l = c.loop-i in
    let q = asks l.invariant.0 l.invariant.1 (omega arith) _ c.number16-n.ensures.value in record { n_in_bounds = q.0; named = q.1; add_bound = omega arith }

pub overflow_add-from-in-loop-i : goal.overflow_add-from-in-loop-i
overflow_add-from-in-loop-i c =
    let l = c.loop-i in
    omega (arith, fits l.invariant.0 l.invariant.1 (omega arith), l.invariant.1.same)

pub loop-i-preserved : goal.loop-i-preserved
loop-i-preserved c =
    let l = c.loop-i in
    let e : c.tree_from-first.result + tree_bytes * l.i + tree_bytes ≡ c.tree_from-first.result + tree_bytes * (l.i + 1) = omega arith in
    (l.invariant.0, rw e at (state-more l.invariant.0 l.invariant.1 (omega arith) _ c.number16-n.ensures.value _ c.rename.ensures))

pub shape_of-s : goal.shape_of-s
shape_of-s c = c.loop-i.invariant.1.same

pub returns : goal.returns
returns c =
    let l = c.loop-i in
    let e : l.i ≡ trees_held_at c.args.s.now = omega (arith, l.invariant.0.held, l.invariant.1.below) in
    rw e at l.invariant.1.named
