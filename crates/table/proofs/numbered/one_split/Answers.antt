-- `table::numbered::one_split` meets its contract. Assumes nothing.
use native.Mathlib.Omega.{arith}
use Rattle.answers.specs.AnswerLaws.{split-refused, split-given}
use Rattle.opening.specs.GivenLaws.{failed, passed}
use Rattle.store.specs.LentLaws.{not-whole}
use Rattle.rows.specs.ReadLaws.{long, count_small, row_below}
use Rattle.table.specs.QuestionLaws.{split-missing, split-found}
use Rattle.layout.specs.WholeFacts.{whole-at-facts}
use Rattle.table.proofs.numbered.one_split.Goals as goal

pub returns-then-not-is_whole : goal.returns-then-not-is_whole
returns-then-not-is_whole c = split-refused _ _ (not-whole _ _ (failed _ _ c.is_whole.ensures c.if-not-is_whole.true-raw))

pub splits_held-requires : goal.splits_held-requires
splits_held-requires c = long _ (passed _ _ c.is_whole.ensures c.if-not-is_whole.false-raw)

pub returns-then-splits_held-k : goal.returns-then-splits_held-k
returns-then-splits_held-k c =
    let w = passed _ _ c.is_whole.ensures c.if-not-is_whole.false-raw in
    split-refused _ _ (split-missing _ w _ (omega arith))

pub row_of-row-requires : goal.row_of-row-requires
row_of-row-requires c = let w = passed _ _ c.is_whole.ensures c.if-not-is_whole.false-raw in record { head_at = (whole-at-facts _ w).head; k_bound = omega arith }

pub mask_at-requires : goal.mask_at-requires
mask_at-requires c = let w = passed _ _ c.is_whole.ensures c.if-not-is_whole.false-raw in record { head_at = (whole-at-facts _ w).head; row_bound = omega (arith, c.row_of-row.ensures, row_below _ w c.args.k.0 (omega arith)) }

pub count_at-requires : goal.count_at-requires
count_at-requires c = let w = passed _ _ c.is_whole.ensures c.if-not-is_whole.false-raw in record { head_at = (whole-at-facts _ w).head; row_bound = omega (arith, c.row_of-row.ensures, row_below _ w c.args.k.0 (omega arith)) }

pub overflow_cast-result : goal.overflow_cast-result
overflow_cast-result c =
    let b = c.type_inv.s in
    let w = passed _ _ c.is_whole.ensures c.if-not-is_whole.false-raw in
    let r = row_below _ w c.args.k.0 (omega arith) in
    omega (arith, count_small _ _ _ (omega (arith, c.row_of-row.ensures, r)) (λ i. omega (arith, b i)) c.count_at.ensures)

pub returns : goal.returns
returns c =
    let w = passed _ _ c.is_whole.ensures c.if-not-is_whole.false-raw in
    split-given _ _ _ (split-found _ w _ _ _ _ (omega arith) c.row_of-row.ensures c.mask_at.ensures c.count_at.ensures)
