use Rattle.std.proofs.Common.{◌<◌, length, sym, refl, ◌∙◌, arith, length-set}
use Rattle.theorems.specs.ListLaws.{mem-get_d}
use Rattle.distances.specs.EightLaws.{added_more, added-end}
use Rattle.distances.proofs.eight.mark_words.Goals as goal

pub loop-row-init : goal.loop-row-init
loop-row-init c = (omega arith, c.requires.words_len, refl)

pub offset_bounds-words-k : goal.offset_bounds-words-k
offset_bounds-words-k c = let l = c.loop-row in
    let h : l.row-index < length c.args.rows.now = omega arith in
    omega (arith, c.requires.rows.below _ (mem-get_d c.args.rows.now l.row-index h), c.from-k.ensures, l.invariant.1)

pub bounds-words-k : goal.bounds-words-k
bounds-words-k c =
    let l = c.loop-row in
    let h : l.row-index < length c.args.rows.now = omega arith in
    omega (arith, c.requires.rows.below _ (mem-get_d c.args.rows.now l.row-index h), c.from-k.ensures, l.invariant.1)

pub offset_bounds-words-k-in-loop-row : goal.offset_bounds-words-k-in-loop-row
offset_bounds-words-k-in-loop-row c = let l = c.loop-row in
    let h : l.row-index < length c.args.rows.now = omega arith in
    omega (arith, c.requires.rows.below _ (mem-get_d c.args.rows.now l.row-index h), c.from-k.ensures, l.invariant.1)

pub bounds-words-k-in-loop-row : goal.bounds-words-k-in-loop-row
bounds-words-k-in-loop-row c = (let l = c.loop-row in
    let h : l.row-index < length c.args.rows.now = omega arith in
    omega (arith, c.requires.rows.below _ (mem-get_d c.args.rows.now l.row-index h), c.from-k.ensures, l.invariant.1))

pub loop-row-preserved : goal.loop-row-preserved
loop-row-preserved c =
    let l = c.loop-row in
    let q = added_more c.args.v c.args.rows.now l.words l.row-index _ _ (omega arith) c.from-k.ensures refl in
    (omega arith, length-set l.words _ _ ∙ l.invariant.1, l.invariant.2 ∙ q)

pub returns : goal.returns
returns c =
    let l = c.loop-row in
    sym (l.invariant.2 ∙ added-end c.args.v c.args.rows.now l.words l.row-index (omega arith))
