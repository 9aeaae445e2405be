use Rattle.std.proofs.Common.{◌<◌, length, refl, ◌∙◌, arith, length-set}
use Rattle.layout.specs.Store.{list_at}
use Rattle.layout.specs.InsideLaws.{trees-few}
use Rattle.distances.specs.ShortLaws.{row-missing, row_common, left-all, left-inside, left_in, left_out, left_end, short-few}
use Rattle.distances.specs.WholeTreeLaws.{head_at, list-few, row_small, row_at}
use Rattle.distances.proofs.short.shorten_tree.Goals as goal
use Rattle.distances.proofs.short.shorten_tree.Goals.{then-count_at-trees, else-count_at-trees}

pub trees_held-trees-requires : goal.trees_held-trees-requires
trees_held-trees-requires c = (head_at _ c.requires.s_value).head-there

pub tree_from-from-requires : goal.tree_from-from-requires
tree_from-from-requires c = record { head_at = head_at _ c.requires.s_value; i_bound = c.requires.i_bound }

pub splits_in-n-requires : goal.splits_in-n-requires
splits_in-n-requires c = record { head_at = head_at _ c.requires.s_value; i_bound = c.requires.i_bound }

pub overflow_mul-first : goal.overflow_mul-first
overflow_mul-first c = omega (arith, trees-few _ (head_at _ c.requires.s_value), c.requires.i_bound)

pub loop-j-init : goal.loop-j-init
loop-j-init c = (omega arith, c.splits_in-n.ensures, c.trees_held-trees.ensures, c.requires.short_len, left-all _ _ _, refl)

pub row_in-k-requires : goal.row_in-k-requires
row_in-k-requires c = let v = c.loop-j.invariant in record { head_at = head_at _ c.requires.s_value; i_bound = c.requires.i_bound; from_value = c.tree_from-from.ensures.value; j_in_bounds = omega (arith, v.1); j_lt_most_splits = omega (arith, v.1, list-few _ c.requires.s_value _ c.requires.i_bound) }

pub count_at-requires : goal.count_at-requires
count_at-requires c = let l = c.loop-j in record { head_at = head_at _ c.requires.s_value; row_bound = row_at _ c.requires.s_value _ c.requires.i_bound l.j _ (omega (arith, l.invariant.1)) c.row_in-k.ensures }

pub overflow_cast-short : goal.overflow_cast-short
overflow_cast-short c =
    let l = c.loop-j in
    omega (arith, row_small _ c.requires.s_value _ c.requires.i_bound l.j _ (omega (arith, l.invariant.1)) c.row_in-k.ensures)

pub offset_bounds-short-at : goal.offset_bounds-short-at
offset_bounds-short-at c = let l = c.loop-j in
    let m = row-missing c.args.s.now _ _ _ c.count_at.ensures l.invariant.2 c.if-count_at-trees.true in
    let r = left-inside _ _ _ _ l.at l.j _ (omega (arith, l.invariant.1)) c.row_in-k.ensures l.invariant.4 m in
    omega (arith, r, short-few _ c.requires.s_value _ c.requires.i_bound, trees-few _ (head_at _ c.requires.s_value), c.requires.i_bound)

-- the place of a row that is stored is one of the tree's
pub bounds-short-at : goal.bounds-short-at
bounds-short-at c =
    let l = c.loop-j in
    let m = row-missing c.args.s.now _ _ _ c.count_at.ensures l.invariant.2 c.if-count_at-trees.true in
    let r = left-inside _ _ _ _ l.at l.j _ (omega (arith, l.invariant.1)) c.row_in-k.ensures l.invariant.4 m in
    omega (arith, r, short-few _ c.requires.s_value _ c.requires.i_bound, trees-few _ (head_at _ c.requires.s_value), c.requires.i_bound)

pub overflow_add-at : goal.overflow_add-at
overflow_add-at c = omega (arith, bounds-short-at c)

pub loop-j-preserved : goal.loop-j-preserved
loop-j-preserved c =
    let l = c.loop-j in
    let s = c.args.s.now in
    let h : l.j < length (list_at s c.args.i) = omega (arith, l.invariant.1) in
    let r = c.row_in-k.ensures in
    let n = c.count_at.ensures in
    elim c.if-count_at-trees.branch [
      | then-count_at-trees w ↦ (omega arith, l.invariant.1, l.invariant.2, rw w.short-is (length-set l.short _ _ ∙ l.invariant.3), rw (w.short-is, w.at-is) (left_in _ _ _ _ l.at l.j _ h r l.invariant.4 (row-missing s _ _ _ n l.invariant.2 w.if-count_at-trees.true)), refl)
      | else-count_at-trees w ↦ (omega arith, l.invariant.1, l.invariant.2, rw w.short-is l.invariant.3, rw (w.short-is, w.at-is) (left_out _ _ _ _ l.at l.j _ h r l.invariant.4 (row_common s _ _ _ n l.invariant.2 w.if-count_at-trees.false)), refl)
    ]

pub overflow_sub-result : goal.overflow_sub-result
overflow_sub-result c = let l = c.loop-j in omega (arith, (left_end _ _ _ _ l.at l.j (omega (arith, l.invariant.1)) l.invariant.4).0)

pub returns : goal.returns
returns c =
    let l = c.loop-j in
    let r = left_end _ _ _ _ l.at l.j (omega (arith, l.invariant.1)) l.invariant.4 in record { value = omega (arith, r.0); short_after = r.1 }
