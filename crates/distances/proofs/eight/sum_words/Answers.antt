use Rattle.std.proofs.Common.{◌<◌, length, arith}
use Rattle.theorems.specs.ListLaws.{mem-get_d}
use Rattle.distances.specs.MarkLaws.{sum_more, sum-end}
use Rattle.distances.proofs.eight.sum_words.Goals as goal

pub loop-row-init : goal.loop-row-init
loop-row-init c = (omega arith, omega arith, omega arith)

pub offset_bounds-words-k : goal.offset_bounds-words-k
offset_bounds-words-k c = let l = c.loop-row in
    let h : l.row-index < length c.args.rows.now = omega arith in
    omega (arith, c.requires.rows.below _ (mem-get_d c.args.rows.now l.row-index h), c.from-k.ensures, c.requires.small_words.room, c.requires.small_words.room)

pub bounds-words-k : goal.bounds-words-k
bounds-words-k c =
    let l = c.loop-row in
    let h : l.row-index < length c.args.rows.now = omega arith in
    omega (arith, c.requires.rows.below _ (mem-get_d c.args.rows.now l.row-index h), c.from-k.ensures, c.requires.small_words.room)

pub overflow_add-sum : goal.overflow_add-sum
overflow_add-sum c =
    let l = c.loop-row in
    let h : l.row-index < length c.args.rows.now = omega arith in
    omega (
      arith,
      l.invariant.1,
      c.requires.rows.few,
      c.requires.small_words.small c.from-k.result (omega (
        arith,
        c.requires.rows.below _ (mem-get_d c.args.rows.now l.row-index h),
        c.from-k.ensures,
        c.requires.small_words.room,
      )),
    )

pub loop-row-preserved : goal.loop-row-preserved
loop-row-preserved c =
    let l = c.loop-row in
    let h : l.row-index < length c.args.rows.now = omega arith in
    let q = sum_more c.args.words.now c.args.rows.now l.row-index _ (omega arith) c.from-k.ensures in
    let w = c.requires.small_words.small c.from-k.result (omega (
      arith,
      c.requires.rows.below _ (mem-get_d c.args.rows.now l.row-index h),
      c.from-k.ensures,
      c.requires.small_words.room,
    )) in
    (omega arith, omega (arith, w, l.invariant.1), omega (arith, l.invariant.2, q))

pub returns : goal.returns
returns c =
    let l = c.loop-row in
    omega (arith, l.invariant.2, sum-end c.args.words.now c.args.rows.now l.row-index (omega arith))
