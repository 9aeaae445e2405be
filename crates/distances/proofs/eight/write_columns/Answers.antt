use Rattle.std.proofs.Common.{◌≡◌, ◌<◌, sym, ap, ◌∙◌, subst, arith}
use Rattle.distances.specs.Marks.{mark_sum}
use Rattle.distances.specs.Short.{Rows}
use Rattle.distances.specs.EightLaws.{words_small, words-sum, column_fits, columns-none, columns-more}
use Rattle.distances.proofs.eight.write_columns.Goals as goal

pub loop-j-init : goal.loop-j-init
loop-j-init c = (omega arith, columns-none _ _ _ c.requires.table _ _ c.requires.n_bound c.requires.n_bound_2 _ c.requires.out_len)

pub rows_of-requires : goal.rows_of-requires
rows_of-requires c =
    let t = c.requires.table in
    let l = c.loop-j in
    let h : l.j < c.args.trees = omega arith in record { short_len = t.room; sizes_len = t.trees; i_bound = omega (arith, t.few); i_bound_2 = omega (arith, t.sized l.j h, (t.rows l.j h).few) }

pub sum_words-w-requires : goal.sum_words-w-requires
sum_words-w-requires c = let l = c.loop-j in record { rows = subst Rows (sym c.rows_of.ensures) (c.requires.table.rows l.j (omega arith)); small_words = words_small _ _ _ _ _ c.requires.words c.requires.n_bound_2 }

pub put_column-requires : goal.put_column-requires
put_column-requires c =
    let l = c.loop-j in
    let h : l.j < c.args.trees = omega arith in
    let e = c.sum_words-w.ensures ∙ ap (mark_sum _) c.rows_of.ensures ∙ words-sum _ _ _ _ _ c.requires.words _ (c.requires.table.rows l.j h).below in record { fits = column_fits _ _ _ c.requires.table _ _ c.requires.n_bound c.requires.n_bound_2 l.j h _ e; out_len = l.invariant.1.room }

pub loop-j-preserved : goal.loop-j-preserved
loop-j-preserved c =
    let l = c.loop-j in
    let h : l.j < c.args.trees = omega arith in
    let e = c.sum_words-w.ensures ∙ ap (mark_sum _) c.rows_of.ensures ∙ words-sum _ _ _ _ _ c.requires.words _ (c.requires.table.rows l.j h).below in
    (omega arith, columns-more _ _ _ c.requires.table _ _ c.requires.n_bound c.requires.n_bound_2 l.j h _ e _ _ l.invariant.1 c.put_column.ensures)

pub returns : goal.returns
returns c =
    let l = c.loop-j in
    let e : l.j ≡ c.args.trees = omega (arith, l.invariant.0) in
    rw e at l.invariant.1
