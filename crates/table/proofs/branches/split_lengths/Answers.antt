-- `table::branches::split_lengths` meets its contract. Assumes nothing.
use native.Mathlib.Omega.{arith}
use mathlib.Core.Path.{sym, ◌∙◌}
use Rattle.answers.specs.AnswerLaws.{lengths-refused}
use Rattle.opening.specs.GivenLaws.{failed, passed}
use Rattle.store.specs.LentLaws.{not-whole}
use Rattle.rows.specs.ReadLaws.{long, row_below}
use Rattle.layout.specs.WholeFacts.{whole-at-facts}
use Rattle.table.specs.SplitLengthLaws.{lengths-missing, lengths-not-kept, lengths-found}
use Rattle.table.proofs.branches.split_lengths.Goals as goal

pub returns-then-not-is_whole : goal.returns-then-not-is_whole
returns-then-not-is_whole c = lengths-refused _ _ (not-whole _ _ (failed _ _ c.is_whole.ensures c.if-not-is_whole.true-raw))

pub splits_held-requires : goal.splits_held-requires
splits_held-requires c = long _ (passed _ _ c.is_whole.ensures c.if-not-is_whole.false-raw)

pub returns-then-splits_held-k : goal.returns-then-splits_held-k
returns-then-splits_held-k c = lengths-refused _ _ (lengths-missing _ (passed _ _ c.is_whole.ensures c.if-not-is_whole.false-raw) _ (omega arith))

pub kept-requires : goal.kept-requires
kept-requires c = long _ (passed _ _ c.is_whole.ensures c.if-not-is_whole.false-raw)

pub returns-then-kept-eq0 : goal.returns-then-kept-eq0
returns-then-kept-eq0 c = lengths-refused _ _ (lengths-not-kept _ (passed _ _ c.is_whole.ensures c.if-not-is_whole.false-raw) _ (omega arith) (sym c.kept.ensures.value ∙ c.if-kept-eq0.true))

pub row_of-row-requires : goal.row_of-row-requires
row_of-row-requires c = record { head_at = (whole-at-facts _ (passed _ _ c.is_whole.ensures c.if-not-is_whole.false-raw)).head; k_bound = omega arith }

pub row_lengths-requires : goal.row_lengths-requires
row_lengths-requires c =
    let w = passed _ _ c.is_whole.ensures c.if-not-is_whole.false-raw in
    let r = row_below _ w c.args.k.0 (omega arith) in record { s_value = w; row_bound = omega (arith, c.row_of-row.ensures, r); bound = omega (arith, c.kept.ensures.value, c.if-kept-eq0.false) }

pub returns : goal.returns
returns c =
    let w = passed _ _ c.is_whole.ensures c.if-not-is_whole.false-raw in
    c.row_lengths.ensures
    ∙ sym (lengths-found _ w _ (omega arith) (λ z. c.if-kept-eq0.false (c.kept.ensures.value ∙ z)) _ c.row_of-row.ensures)
