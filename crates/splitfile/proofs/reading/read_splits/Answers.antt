-- `splitfile::reading::read_splits` meets its contract. Assumes nothing.
use Rattle.std.proofs.Common.{sym, refl, ◌∙◌, arith}
use Rattle.std.proofs.lemmas.Result.{err_from_is_err_and}
use Rattle.rows.specs.ReadLaws.{long}
use Rattle.store.specs.LentLaws.{not-whole}
use Rattle.splitfile.specs.FormLaws.{good_length}
use Rattle.splitfile.specs.ReadingLaws.{read-refused, read_as, reading-refused, reading-good}
use Rattle.splitfile.proofs.reading.read_splits.Goals as goal

pub returns-then-not-is_whole : goal.returns-then-not-is_whole
returns-then-not-is_whole c = read-refused _ _ _ _ (not-whole _ _ (sym c.is_whole.ensures ∙ c.if-not-is_whole.true))

pub taxa-requires : goal.taxa-requires
taxa-requires c = long _ (sym c.is_whole.ensures ∙ c.if-not-is_whole.false)

pub give_records-requires : goal.give_records-requires
give_records-requires c = omega (arith, good_length _ _ _ c.in_ok-n.ensures _ refl)

pub returns : goal.returns
returns c =
    let w = sym c.is_whole.ensures ∙ c.if-not-is_whole.false in
    read_as _ _ (reading-good _ _ _ _ w _ c.taxa.ensures.value _ c.in_ok-n.ensures _ refl) _ _ _ _ _ c.give_records.ensures

pub returns-in_err-n : goal.returns-in_err-n
returns-in_err-n c =
    let p = err_from_is_err_and c.from_residual.result c.from_residual.ensures.1 in
    let w = sym c.is_whole.ensures ∙ c.if-not-is_whole.false in
    rw (p.1, p.2) (read-refused _ _ _ _ (reading-refused _ _ _ _ w _ c.taxa.ensures.value _ c.in_err-n.ensures _ refl))
