use Rattle.std.proofs.Common.{◌<◌, length, sym, refl, ◌∙◌, arith, length-set}
use Rattle.theorems.specs.ListLaws.{mem-get_d}
use Rattle.distances.specs.MarkLaws.{marked_more, marked-end}
use Rattle.distances.proofs.short.mark_rows.Goals as goal

pub loop-row-init : goal.loop-row-init
loop-row-init c = (omega arith, c.requires.marks_len, refl)

pub bounds-marks-k : goal.bounds-marks-k
bounds-marks-k c =
    let l = c.loop-row in
    let h : l.row-index < length c.args.rows.now = omega arith in
    omega (arith, c.requires.rows.below _ (mem-get_d c.args.rows.now l.row-index h), c.from-k.ensures, l.invariant.1)

pub loop-row-preserved : goal.loop-row-preserved
loop-row-preserved c =
    let l = c.loop-row in
    let q = marked_more c.args.v c.args.rows.now l.marks l.row-index _ (omega arith) c.from-k.ensures in
    (omega arith, length-set l.marks _ _ ∙ l.invariant.1, l.invariant.2 ∙ q)

pub returns : goal.returns
returns c =
    let l = c.loop-row in
    sym (l.invariant.2 ∙ marked-end c.args.v c.args.rows.now l.marks l.row-index (omega arith))
