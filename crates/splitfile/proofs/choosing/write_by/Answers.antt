-- `splitfile::choosing::write_by` meets its contract. Assumes nothing.
use Rattle.std.proofs.Common.{arith, sym, refl, ◌∙◌}
use Rattle.std.proofs.lemmas.Result.{err_from_is_err_and}
use Rattle.answers.specs.AnswerLaws.{filled-refused, filled-as}
use Rattle.rows.specs.ReadLaws.{long}
use Rattle.store.specs.LentLaws.{not-whole}
use Rattle.splitfile.specs.FormLaws.{good_length, good-formed}
use Rattle.splitfile.specs.ChosenTreeLaws.{tree-refused, tree-good}
use Rattle.splitfile.proofs.choosing.write_by.Goals as goal

pub returns-then-not-is_whole : goal.returns-then-not-is_whole
returns-then-not-is_whole c = filled-refused _ _ _ (not-whole _ _ (sym c.is_whole.ensures ∙ c.if-not-is_whole.true))

pub taxa-requires : goal.taxa-requires
taxa-requires c = long _ (sym c.is_whole.ensures ∙ c.if-not-is_whole.false)

pub write_records-requires : goal.write_records-requires
write_records-requires c =
    let w = sym c.is_whole.ensures ∙ c.if-not-is_whole.false in
    let e = c.taxa.ensures.value in
    let g = good-formed _ _ _ c.in_ok-n.ensures _ refl in record { s_value = w; n_in_bounds = omega (arith, good_length _ _ _ c.in_ok-n.ensures _ refl); file_value = rw (← e) g }

pub returns : goal.returns
returns c =
    let w = sym c.is_whole.ensures ∙ c.if-not-is_whole.false in
    filled-as _ c.args.out.now _ (tree-good _ _ _ _ w _ c.taxa.ensures.value _ c.in_ok-n.ensures _ refl) _ _ c.write_records.ensures

pub returns-in_err-n : goal.returns-in_err-n
returns-in_err-n c =
    let p = err_from_is_err_and c.from_residual.result c.from_residual.ensures.1 in
    let w = sym c.is_whole.ensures ∙ c.if-not-is_whole.false in
    rw (p.1, p.2) (filled-refused _ _ _ (tree-refused _ _ _ _ w _ c.taxa.ensures.value _ c.in_err-n.ensures _ refl))
