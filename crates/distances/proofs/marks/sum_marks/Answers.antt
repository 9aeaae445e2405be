use Rattle.std.proofs.Common.{arith}
use Rattle.layout.specs.Store.{list_at}
use Rattle.distances.specs.MarkLaws.{sum_more, sum-end}
use Rattle.distances.specs.WholeTreeLaws.{head_at, list-few, row_small}
use Rattle.distances.proofs.marks.sum_marks.Goals as goal

pub tree_from-from-requires : goal.tree_from-from-requires
tree_from-from-requires c = record { head_at = head_at _ c.requires.s_value; i_bound = c.requires.j_bound }

pub splits_in-n-requires : goal.splits_in-n-requires
splits_in-n-requires c = record { head_at = head_at _ c.requires.s_value; i_bound = c.requires.j_bound }

pub loop-at-init : goal.loop-at-init
loop-at-init c = (omega arith, omega (arith, c.splits_in-n.ensures, list-few _ c.requires.s_value _ c.requires.j_bound), omega arith, omega arith)

pub row_in-k-requires : goal.row_in-k-requires
row_in-k-requires c = record { head_at = head_at _ c.requires.s_value; i_bound = c.requires.j_bound; from_value = c.tree_from-from.ensures.value; j_in_bounds = omega (arith, c.splits_in-n.ensures); j_lt_most_splits = omega arith }

pub bounds-marks-k : goal.bounds-marks-k
bounds-marks-k c =
    let k = row_small _ c.requires.s_value _ c.requires.j_bound c.loop-at.at _ (omega (arith, c.splits_in-n.ensures)) c.row_in-k.ensures in
    omega (arith, k, c.requires.marks_len)

pub overflow_add-sum : goal.overflow_add-sum
overflow_add-sum c = omega (arith, c.from-sum.ensures, c.loop-at.invariant.2)

pub loop-at-preserved : goal.loop-at-preserved
loop-at-preserved c =
    let l = c.loop-at in
    let w = c.from-sum.ensures in
    let q = sum_more c.args.marks.now (list_at c.args.s.now c.args.j) l.at _ (omega (arith, c.splits_in-n.ensures)) c.row_in-k.ensures in
    (omega arith, l.invariant.1, omega (arith, w, l.invariant.2), omega (arith, w, l.invariant.3, q))

pub returns : goal.returns
returns c =
    let l = c.loop-at in
    let e = sum-end c.args.marks.now (list_at c.args.s.now c.args.j) l.at (omega (arith, c.splits_in-n.ensures)) in
    omega (arith, l.invariant.3, e)
