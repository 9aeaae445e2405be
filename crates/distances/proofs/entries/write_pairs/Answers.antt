use Rattle.std.proofs.Common.{◌*◌, ◌<◌, sym, refl, ap, ◌∙◌, subst, ap₂, arith}
use Rattle.trees.specs.Distance.{doubled}
use Rattle.layout.specs.Store.{trees_held_at}
use Rattle.layout.specs.InsideLaws.{trees-few}
use Rattle.distances.specs.EntryLaws.{filled_row, pair-more}
use Rattle.distances.specs.Short.{Rows}
use Rattle.distances.specs.ShortLaws.{short-rows, short-doubled, size_few}
use Rattle.distances.specs.WholeTreeLaws.{head_at}
use Rattle.distances.proofs.entries.write_pairs.Goals as goal

pub trees_held-trees-requires : goal.trees_held-trees-requires
trees_held-trees-requires c = (head_at _ c.requires.s_value).head-there

pub loop-j-init : goal.loop-j-init
loop-j-init c = (omega arith, c.trees_held-trees.ensures, c.requires.filled, refl, refl)

pub rows_of-requires : goal.rows_of-requires
rows_of-requires c =
    let t = c.requires.shortened in
    let l = c.loop-j in
    let h : l.j < trees_held_at c.args.s.now = omega (arith, l.invariant.1) in record { short_len = t.room; sizes_len = t.trees; i_bound = omega (arith, trees-few _ (head_at _ c.requires.s_value)); i_bound_2 = size_few _ c.requires.s_value _ _ _ t l.j h h }

pub distance-d-requires : goal.distance-d-requires
distance-d-requires c =
    let l = c.loop-j in
    let h : l.j < trees_held_at c.args.s.now = omega (arith, l.invariant.1) in record { rows = subst Rows (sym c.requires.rows_value) (short-rows _ c.requires.s_value _ c.requires.i_bound); marks_value = c.requires.marks_value; rows_2 = subst Rows (sym (c.rows_of.ensures ∙ c.requires.shortened.listed l.j h)) (short-rows _ c.requires.s_value _ h) }

pub put_pair-requires : goal.put_pair-requires
put_pair-requires c =
    let l = c.loop-j in
    let e = c.loop-j.invariant.1 in
    let f = ap (λ n. n * n) e in record { n_bound = omega (arith, e, trees-few _ (head_at _ c.requires.s_value)); n_in_bounds = omega (arith, f, l.invariant.3, c.requires.s_in_bounds); i_lt_n = omega (arith, e, c.requires.i_bound); j_lt_n = omega arith }

pub loop-j-preserved : goal.loop-j-preserved
loop-j-preserved c =
    let l = c.loop-j in
    let s = c.args.s.now in
    let h : l.j < trees_held_at s = omega (arith, l.invariant.1) in
    let r = c.rows_of.ensures ∙ c.requires.shortened.listed l.j h in
    let e = c.distance-d.ensures ∙ ap₂ doubled c.requires.rows_value r ∙ short-doubled s c.requires.s_value c.args.i l.j c.requires.i_bound h in
    let q = pair-more s c.args.i l.j _ _ l.out _ l.invariant.1 l.invariant.2 l.invariant.0 h (omega (arith, l.invariant.3, c.requires.s_in_bounds)) e c.put_pair.ensures in
    (omega (arith, l.invariant.0), l.invariant.1, q.0, q.1 ∙ l.invariant.3, q.2 ∙ l.invariant.4)

pub shape_of-out : goal.shape_of-out
shape_of-out c = c.loop-j.invariant.3

pub returns : goal.returns
returns c = let l = c.loop-j in record { filled_2 = filled_row _ _ l.j l.out (omega (arith, l.invariant.1)) l.invariant.2; out_len_unchanged = l.invariant.3; out_unchanged = l.invariant.4 }
