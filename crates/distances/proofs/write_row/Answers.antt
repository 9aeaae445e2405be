use Rattle.std.proofs.Common.{◌≡◌, sym, refl, ◌∙◌, arith}
use Rattle.answers.specs.FrontLaws.{copied-length, copied_more, copied_all}
use Rattle.layout.specs.Store.{trees_held_at}
use Rattle.distances.specs.Marks.{no_marks, marks_of}
use Rattle.distances.specs.MarkLaws.{none-length}
use Rattle.distances.specs.RowLaws.{row-length, row-entry}
use Rattle.distances.specs.WholeTreeLaws.{head_at}
use Rattle.distances.proofs.write_row.Goals as goal

pub trees_held-trees-requires : goal.trees_held-trees-requires
trees_held-trees-requires c = (head_at _ c.requires.s_value).head-there

pub mark_tree-requires : goal.mark_tree-requires
unfolding no_marks
mark_tree-requires c = record { s_value = c.requires.s_value; i_bound = c.requires.i_bound; marks_len = none-length }

pub loop-j-init : goal.loop-j-init
unfolding marks_of no_marks
loop-j-init c = (omega arith, c.trees_held-trees.ensures, c.mark_tree.ensures, refl)

pub distance-requires : goal.distance-requires
distance-requires c = let v = c.loop-j.invariant in record { s_value = c.requires.s_value; i_bound = c.requires.i_bound; marks_value = v.2; j_bound = omega (arith, v.1) }

pub bounds-out-j : goal.bounds-out-j
bounds-out-j c =
    let l = c.loop-j in
    let n = row-length c.args.s.now c.args.i.0 in
    omega (arith, l.invariant.1, c.requires.s_in_bounds, copied-length _ _ _ l.j l.invariant.3 (omega (arith, l.invariant.1)) (omega (arith, l.invariant.1, c.requires.s_in_bounds)))

pub loop-j-preserved : goal.loop-j-preserved
loop-j-preserved c =
    let l = c.loop-j in
    let n = row-length c.args.s.now c.args.i.0 in
    let e = c.distance.ensures ∙ sym (row-entry c.args.s.now c.args.i.0 l.j (omega (arith, l.invariant.1))) in
    (omega arith, l.invariant.1, l.invariant.2, copied_more _ _ _ l.j l.invariant.3 _ (omega (arith, l.invariant.1)) (omega (arith, l.invariant.1, c.requires.s_in_bounds)) e)

pub shape_of-out : goal.shape_of-out
shape_of-out c =
    let l = c.loop-j in
    let n = row-length c.args.s.now c.args.i.0 in
    copied-length _ _ _ l.j l.invariant.3 (omega (arith, l.invariant.1)) (omega (arith, l.invariant.1, c.requires.s_in_bounds))

pub returns : goal.returns
returns c =
    let a = c.args in
    let l = c.loop-j in
    let e : l.j ≡ trees_held_at a.s.now = omega (arith, l.invariant.1) in
    rw e at (copied_all _ _ _ _ l.invariant.3 (e ∙ sym (row-length a.s.now a.i.0)))
