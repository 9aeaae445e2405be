use Rattle.std.proofs.Common.{◌<◌, length, sym, refl, ap, ◌∙◌, subst, arith}
use Rattle.layout.specs.Store.{trees_held_at}
use Rattle.layout.specs.InsideLaws.{trees-few}
use Rattle.distances.specs.Marks.{marked, no_marks}
use Rattle.distances.specs.MarkLaws.{none-length, marks-made, marks_of-length, marks-gone}
use Rattle.distances.specs.EntryLaws.{filled_none, filled-all}
use Rattle.distances.specs.Short.{Rows}
use Rattle.distances.specs.ShortLaws.{short-rows, size_few}
use Rattle.distances.specs.WholeTreeLaws.{head_at}
use Rattle.distances.proofs.entries.write_entries.Goals as goal

pub loop-i-init : goal.loop-i-init
unfolding no_marks
loop-i-init c = (refl, filled_none _ _, refl, refl)

pub rows_of-rows-requires : goal.rows_of-rows-requires
rows_of-rows-requires c =
    let t = c.requires.shortened in
    let l = c.loop-i in
    let h : l.i < trees_held_at c.args.s.now = omega (arith, c.requires.trees_value) in record { short_len = t.room; sizes_len = t.trees; i_bound = omega (arith, trees-few _ (head_at _ c.requires.s_value)); i_bound_2 = size_few _ c.requires.s_value _ _ _ t l.i h h }

pub mark_rows-requires : goal.mark_rows-requires
mark_rows-requires c =
    let l = c.loop-i in
    let h : l.i < trees_held_at c.args.s.now = omega (arith, c.requires.trees_value) in record { rows = subst Rows (sym (c.rows_of-rows.ensures ∙ c.requires.shortened.listed l.i h)) (short-rows _ c.requires.s_value _ h); marks_len = ap length l.invariant.0 ∙ none-length }

pub write_pairs-requires : goal.write_pairs-requires
write_pairs-requires c =
    let l = c.loop-i in
    let h : l.i < trees_held_at c.args.s.now = omega (arith, c.requires.trees_value) in
    let m = c.mark_rows.ensures ∙ marks-made _ _ l.invariant.0 in
    let r = c.rows_of-rows.ensures ∙ c.requires.shortened.listed l.i h in record { s_value = c.requires.s_value; i_bound = h; rows_value = r; marks_value = m; shortened = c.requires.shortened; s_in_bounds = omega (arith, l.invariant.2, c.requires.s_in_bounds); filled = l.invariant.1 }

pub mark_rows-requires-in-loop-i : goal.mark_rows-requires-in-loop-i
mark_rows-requires-in-loop-i c =
    let l = c.loop-i in
    let h : l.i < trees_held_at c.args.s.now = omega (arith, c.requires.trees_value) in
    let m = c.mark_rows.ensures ∙ marks-made _ _ l.invariant.0 in record { rows = subst Rows (sym (c.rows_of-rows.ensures ∙ c.requires.shortened.listed l.i h)) (short-rows _ c.requires.s_value _ h); marks_len = ap length m ∙ marks_of-length _ }

pub loop-i-preserved : goal.loop-i-preserved
loop-i-preserved c =
    let l = c.loop-i in
    let m = c.mark_rows.ensures ∙ marks-made _ _ l.invariant.0 in
    (c.mark_rows-in-loop-i.ensures ∙ ap (marked 1 _) m ∙ marks-gone _, c.write_pairs.ensures.filled_2, c.write_pairs.ensures.out_len_unchanged ∙ l.invariant.2, c.write_pairs.ensures.out_unchanged ∙ l.invariant.3)

pub shape_of-out : goal.shape_of-out
shape_of-out c = c.loop-i.invariant.2

pub returns : goal.returns
returns c =
    let l = c.loop-i in
    filled-all _ l.i _ l.out (omega (arith, c.requires.trees_value)) l.invariant.1 (omega (arith, l.invariant.2, c.requires.s_in_bounds)) l.invariant.3
