use Rattle.std.proofs.Common.{sym, refl, ◌∙◌, arith, length-set}
use Rattle.layout.specs.Store.{list_at}
use Rattle.distances.specs.MarkLaws.{marked_more, marked-end}
use Rattle.distances.specs.WholeTreeLaws.{head_at, list-few, row_small}
use Rattle.distances.proofs.marks.mark_tree.Goals as goal

pub tree_from-from-requires : goal.tree_from-from-requires
tree_from-from-requires c = record { head_at = head_at _ c.requires.s_value; i_bound = c.requires.i_bound }

pub splits_in-n-requires : goal.splits_in-n-requires
splits_in-n-requires c = record { head_at = head_at _ c.requires.s_value; i_bound = c.requires.i_bound }

pub loop-j-init : goal.loop-j-init
loop-j-init c = (omega arith, c.requires.marks_len, refl)

pub row_in-k-requires : goal.row_in-k-requires
row_in-k-requires c = let n = c.splits_in-n.ensures in record { head_at = head_at _ c.requires.s_value; i_bound = c.requires.i_bound; from_value = c.tree_from-from.ensures.value; j_in_bounds = omega (arith, n); j_lt_most_splits = omega (arith, n, list-few _ c.requires.s_value _ c.requires.i_bound) }

pub bounds-marks-k : goal.bounds-marks-k
bounds-marks-k c =
    let k = row_small _ c.requires.s_value _ c.requires.i_bound c.loop-j.j _ (omega (arith, c.splits_in-n.ensures)) c.row_in-k.ensures in
    omega (arith, k, c.loop-j.invariant.1)

pub loop-j-preserved : goal.loop-j-preserved
loop-j-preserved c =
    let l = c.loop-j in
    let q = marked_more 0 (list_at c.args.s.now c.args.i) l.marks l.j _ (omega (arith, c.splits_in-n.ensures)) c.row_in-k.ensures in
    (omega arith, length-set l.marks _ _ ∙ l.invariant.1, l.invariant.2 ∙ q)

pub returns : goal.returns
returns c =
    let l = c.loop-j in
    sym (l.invariant.2 ∙ marked-end 0 (list_at c.args.s.now c.args.i) l.marks l.j (omega (arith, c.splits_in-n.ensures)))
