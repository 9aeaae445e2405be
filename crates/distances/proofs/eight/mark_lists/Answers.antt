use Rattle.std.proofs.Common.{◌≡◌, ◌+◌, ◌<◌, sym, subst, arith}
use Rattle.distances.specs.Short.{Rows}
use Rattle.distances.specs.EightLaws.{words_more}
use Rattle.distances.proofs.eight.mark_lists.Goals as goal

pub loop-b-init : goal.loop-b-init
loop-b-init c = (omega arith, c.requires.words)

pub overflow_add-i : goal.overflow_add-i
overflow_add-i c = omega (arith, c.requires.table.few)

pub rows_of-rows-requires : goal.rows_of-rows-requires
rows_of-rows-requires c =
    let t = c.requires.table in
    let l = c.loop-b in
    let h : c.args.i + l.b < c.args.i + c.args.n = omega arith in record { short_len = t.room; sizes_len = t.trees; i_bound = omega (arith, t.few); i_bound_2 = omega (arith, t.sized (c.args.i + l.b) h, (t.rows (c.args.i + l.b) h).few) }

pub byte_one-requires : goal.byte_one-requires
byte_one-requires c = omega (arith, c.requires.n_bound)

pub mark_words-requires : goal.mark_words-requires
mark_words-requires c = let l = c.loop-b in record { rows = subst Rows (sym c.rows_of-rows.ensures) (c.requires.table.rows (c.args.i + l.b) (omega arith)); words_len = l.invariant.1.room }

pub loop-b-preserved : goal.loop-b-preserved
loop-b-preserved c =
    let l = c.loop-b in
    let r = subst Rows (sym c.rows_of-rows.ensures) (c.requires.table.rows (c.args.i + l.b) (omega arith)) in
    let q = words_more _ _ _ l.b _ l.invariant.1 _ _ (omega (arith, c.requires.n_bound)) c.byte_one.ensures c.rows_of-rows.ensures r in
    (omega arith, rw c.mark_words.ensures q)

pub returns : goal.returns
returns c =
    let l = c.loop-b in
    let e : l.b ≡ c.args.n = omega (arith, l.invariant.0) in
    rw e at l.invariant.1
