-- `distances::short::distance` meets its contract: what a has and b has not is known from the lengths. Assumes nothing.
use Rattle.std.proofs.Common.{length, ap, ◌∙◌, arith}
use Rattle.trees.specs.Distance.{doubled}
use Rattle.distances.specs.MarkLaws.{marks_of-length}
use Rattle.distances.specs.ShortLaws.{rows_apart}
use Rattle.distances.proofs.short.distance.Goals as goal

pub sum_rows-here-requires : goal.sum_rows-here-requires
sum_rows-here-requires c = record { rows = c.requires.rows_2; marks_len = ap length c.requires.marks_value ∙ marks_of-length _ }

pub overflow_add-there : goal.overflow_add-there
overflow_add-there c =
    let r = rows_apart c.args.a.now c.args.b.now _ _ c.requires.rows c.requires.rows_2 c.requires.marks_value c.sum_rows-here.ensures in
    omega (arith, r.1, c.requires.rows.few)

pub overflow_sub-there : goal.overflow_sub-there
overflow_sub-there c =
    let r = rows_apart c.args.a.now c.args.b.now _ _ c.requires.rows c.requires.rows_2 c.requires.marks_value c.sum_rows-here.ensures in
    omega (arith, r.2)

pub overflow_add-result : goal.overflow_add-result
overflow_add-result c =
    let r = rows_apart c.args.a.now c.args.b.now _ _ c.requires.rows c.requires.rows_2 c.requires.marks_value c.sum_rows-here.ensures in
    omega (arith, r.1, c.requires.rows.few)

pub overflow_cast-result : goal.overflow_cast-result
overflow_cast-result c =
    let r = rows_apart c.args.a.now c.args.b.now _ _ c.requires.rows c.requires.rows_2 c.requires.marks_value c.sum_rows-here.ensures in
    omega (arith, r.1, c.requires.rows.few)

pub returns : goal.returns
unfolding doubled
returns c =
    let r = rows_apart c.args.a.now c.args.b.now _ _ c.requires.rows c.requires.rows_2 c.requires.marks_value c.sum_rows-here.ensures in
    omega (arith, r.0, r.2)
