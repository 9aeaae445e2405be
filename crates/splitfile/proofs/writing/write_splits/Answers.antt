-- `splitfile::writing::write_splits` meets its contract. Assumes nothing.
use Rattle.std.proofs.Common.{sym, ◌∙◌, arith}
use Rattle.answers.specs.AnswerLaws.{filled-refused}
use Rattle.rows.specs.ReadLaws.{long}
use Rattle.store.specs.LentLaws.{not-whole}
use Rattle.splitfile.specs.WritingLaws.{file-short, file-given}
use Rattle.splitfile.proofs.writing.write_splits.Goals as goal

pub returns-then-not-is_whole : goal.returns-then-not-is_whole
returns-then-not-is_whole c = filled-refused _ _ _ (not-whole _ _ (sym c.is_whole.ensures ∙ c.if-not-is_whole.true))

pub splits_held-bytes-requires : goal.splits_held-bytes-requires
splits_held-bytes-requires c = long _ (sym c.is_whole.ensures ∙ c.if-not-is_whole.false)

pub returns-then-out-bytes : goal.returns-then-out-bytes
returns-then-out-bytes c =
    let w = sym c.is_whole.ensures ∙ c.if-not-is_whole.false in
    file-short _ w _ _ c.splits_held-bytes.ensures.value c.if-out-bytes.true

pub put_splits-requires : goal.put_splits-requires
put_splits-requires c = record { s_value = sym c.is_whole.ensures ∙ c.if-not-is_whole.false; s_in_bounds = omega arith }

pub returns : goal.returns
returns c =
    let w = sym c.is_whole.ensures ∙ c.if-not-is_whole.false in
    file-given _ w _ _ c.splits_held-bytes.ensures.value _ (omega arith) c.put_splits.ensures
