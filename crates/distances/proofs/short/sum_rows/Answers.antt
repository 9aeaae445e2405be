use Rattle.std.proofs.Common.{◌<◌, length, arith}
use Rattle.theorems.specs.ListLaws.{mem-get_d}
use Rattle.distances.specs.MarkLaws.{sum_more, sum-end}
use Rattle.distances.proofs.short.sum_rows.Goals as goal

pub loop-row-init : goal.loop-row-init
loop-row-init c = (omega arith, omega arith, omega arith)

pub bounds-marks-k : goal.bounds-marks-k
bounds-marks-k c =
    let l = c.loop-row in
    let h : l.row-index < length c.args.rows.now = omega arith in
    omega (arith, c.requires.rows.below _ (mem-get_d c.args.rows.now l.row-index h), c.from-k.ensures, c.requires.marks_len)

pub overflow_add-sum : goal.overflow_add-sum
overflow_add-sum c = omega (arith, c.from-sum.ensures, c.loop-row.invariant.1, c.requires.rows.few)

pub loop-row-preserved : goal.loop-row-preserved
loop-row-preserved c =
    let l = c.loop-row in
    let w = c.from-sum.ensures in
    let q = sum_more c.args.marks.now c.args.rows.now l.row-index _ (omega arith) c.from-k.ensures in
    (omega arith, omega (arith, w, l.invariant.1), omega (arith, w, l.invariant.2, q))

pub returns : goal.returns
returns c =
    let l = c.loop-row in
    omega (arith, l.invariant.2, sum-end c.args.marks.now c.args.rows.now l.row-index (omega arith))
