-- `sheet::lines` meets its contract. Assumes nothing.
use native.Mathlib.Omega.{arith}
use Rattle.opening.specs.GivenLaws.{failed, passed}
use Rattle.layout.specs.WholeFacts.{whole-at-facts}
use Rattle.layout.specs.InsideLaws.{trees-few}
use Rattle.store.specs.LentLaws.{not-whole}
use Rattle.rows.specs.ReadLaws.{long}
use Rattle.sheet.specs.SheetLaws.{sheet-length}
use Rattle.sheet.specs.AskedLaws.{lines-whole}
use Rattle.sheet.specs.RunLaws.{prints-refused, prints-missing, prints-short, prints-given}
use Rattle.sheet.proofs.lines.Goals as goal

pub returns-then-not-is_whole : goal.returns-then-not-is_whole
returns-then-not-is_whole c = prints-refused _ _ _ (not-whole _ _ (failed _ _ c.is_whole.ensures c.if-not-is_whole.true-raw))

pub splits_held-requires : goal.splits_held-requires
splits_held-requires c = long _ (passed _ _ c.is_whole.ensures c.if-not-is_whole.false-raw)

pub trees_held-requires : goal.trees_held-requires
trees_held-requires c = long _ (passed _ _ c.is_whole.ensures c.if-not-is_whole.false-raw)

pub overflow_add-all : goal.overflow_add-all
overflow_add-all c =
    let w = passed _ _ c.is_whole.ensures c.if-not-is_whole.false-raw in
    omega (arith, c.splits_held.ensures.upper_bound, c.trees_held.ensures, trees-few _ (whole-at-facts _ w).head)

pub overflow_add-all-2 : goal.overflow_add-all-2
overflow_add-all-2 c =
    let w = passed _ _ c.is_whole.ensures c.if-not-is_whole.false-raw in
    omega (arith, c.splits_held.ensures.upper_bound, c.trees_held.ensures, trees-few _ (whole-at-facts _ w).head)

pub returns-then-all-from : goal.returns-then-all-from
returns-then-all-from c =
    let a = c.args in
    let w = passed _ _ c.is_whole.ensures c.if-not-is_whole.false-raw in
    prints-missing _ a.out.now _ a.from (lines-whole a.s.now a.refused a.from _ w)
    (omega (arith, sheet-length _ w a.refused, c.splits_held.ensures.value, c.trees_held.ensures, c.if-all-from.true))

pub put_lines-end-requires : goal.put_lines-end-requires
put_lines-end-requires c = let w = passed _ _ c.is_whole.ensures c.if-not-is_whole.false-raw in record { s_value = w; all_value = omega (arith, c.splits_held.ensures.value, c.trees_held.ensures); from_le_all = omega (arith, c.if-all-from.false) }

pub returns-then-end-eq0 : goal.returns-then-end-eq0
returns-then-end-eq0 c =
    let a = c.args in
    let w = passed _ _ c.is_whole.ensures c.if-not-is_whole.false-raw in
    prints-short _ a.out.now _ a.from (lines-whole a.s.now a.refused a.from _ w)
    (omega (arith, sheet-length _ w a.refused, c.splits_held.ensures.value, c.trees_held.ensures, c.if-all-from.false)) _ _ _
    c.put_lines-end.ensures c.if-end-eq0.true

pub returns : goal.returns
returns c =
    let a = c.args in
    let w = passed _ _ c.is_whole.ensures c.if-not-is_whole.false-raw in
    prints-given _ a.out.now _ a.from (lines-whole a.s.now a.refused a.from _ w)
    (omega (arith, sheet-length _ w a.refused, c.splits_held.ensures.value, c.trees_held.ensures, c.if-all-from.false)) _ _ _
    c.put_lines-end.ensures c.if-end-eq0.false
