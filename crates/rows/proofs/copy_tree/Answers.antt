use Prim.Native.Nat.{◌<◌}
use mathlib.Core.Path.{◌≡◌, refl, sym, ◌∙◌}
use native.Mathlib.Omega.{arith}
use lib.ListN.{length, get_or}
use Rattle.layout.specs.Store.{list_at, tree_at}
use Rattle.layout.specs.StoreLaws.{mask_is, list_length}
use Rattle.layout.specs.InsideLaws.{splits-few, mask-inside}
use Rattle.answers.specs.FrontLaws.{copied-length, copied_more, copied_all}
use Rattle.rows.specs.ReadLaws.{tree-length, tree-entry, row-in-list}
use Rattle.rows.proofs.copy_tree.Goals as goal

pub tree_from-from-requires : goal.tree_from-from-requires
tree_from-from-requires c = record { head_at = c.requires.head_at; i_bound = c.requires.i_bound }

pub masks_from-first-requires : goal.masks_from-first-requires
masks_from-first-requires c = c.requires.head_at.head-there

pub loop-j-init : goal.loop-j-init
loop-j-init c = (omega arith, c.number16-n.ensures.value ∙ rw c.tree_from-from.ensures.value (sym (list_length _ _ c.requires.i_bound)), refl)

pub row_in-row-requires : goal.row_in-row-requires
row_in-row-requires c = let v = c.loop-j.invariant in record { head_at = c.requires.head_at; i_bound = c.requires.i_bound; from_value = c.tree_from-from.ensures.value; j_in_bounds = omega arith; j_lt_most_splits = omega (arith, v.1, c.requires.rows_at.few) }

-- the row that is read is a split's
pub overflow_mul-row : goal.overflow_mul-row
overflow_mul-row c =
    let b = row-in-list _ _ c.loop-j.j (omega arith) c.requires.rows_at in
    omega (arith, c.row_in-row.ensures, splits-few _ c.requires.head_at)

pub overflow_add-first : goal.overflow_add-first
overflow_add-first c =
    let b = row-in-list _ _ c.loop-j.j (omega arith) c.requires.rows_at in
    omega (arith, c.row_in-row.ensures, splits-few _ c.requires.head_at, c.masks_from-first.ensures.upper_bound)

pub get64-requires : goal.get64-requires
get64-requires c =
    let b = row-in-list _ _ c.loop-j.j (omega arith) c.requires.rows_at in
    omega (arith, mask-inside _ c.requires.head_at _ b, c.row_in-row.ensures, c.masks_from-first.ensures.value)

pub bounds-masks-j : goal.bounds-masks-j
bounds-masks-j c =
    let l = c.loop-j in
    let n = tree-length c.args.s.now c.args.i.0 in
    omega (arith, c.requires.i_in_bounds, copied-length (tree_at c.args.s.now c.args.i.0) _ _ l.j l.invariant.2 (omega arith) (omega (arith, c.requires.i_in_bounds)))

pub loop-j-preserved : goal.loop-j-preserved
loop-j-preserved c =
    let s = c.args.s.now in
    let i = c.args.i.0 in
    let l = c.loop-j in
    let h : l.j < length (list_at s i) = omega arith in
    let r = c.row_in-row.ensures in
    let k = row-in-list s i l.j h c.requires.rows_at in
    let e : c.get64.result ≡ get_or (tree_at s i) l.j 0 =
    c.get64.ensures ∙ rw (c.masks_from-first.ensures.value, r) (sym (tree-entry s i l.j h ∙ mask_is s _ k)) in
    (omega arith, l.invariant.1, copied_more _ _ _ l.j l.invariant.2 _ (omega (arith, tree-length s i)) (omega (arith, c.requires.i_in_bounds)) e)

pub shape_of-masks : goal.shape_of-masks
shape_of-masks c =
    let l = c.loop-j in
    copied-length (tree_at c.args.s.now c.args.i.0) _ _ l.j l.invariant.2 (omega (arith, tree-length c.args.s.now c.args.i.0)) (omega (arith, c.requires.i_in_bounds))

pub returns : goal.returns
returns c =
    let a = c.args in
    let l = c.loop-j in
    let e : l.j ≡ length (list_at a.s.now a.i.0) = omega arith in
    rw e at (copied_all _ _ _ _ l.invariant.2 (e ∙ sym (tree-length a.s.now a.i.0)))
