-- `splitfile::form::form_of` meets its contract. Assumes nothing.
use Rattle.std.proofs.Common.{sym, refl, ◌∙◌, arith}
use Rattle.splitfile.specs.FormLaws.{form-bad-length, form-bad-record, form-good}
use Rattle.splitfile.proofs.form.form_of.Goals as goal

pub returns-then-file-ne0 : goal.returns-then-file-ne0
returns-then-file-ne0 c = form-bad-length _ _ (λ e. omega arith)

pub returns-then-not-is_formed : goal.returns-then-not-is_formed
returns-then-not-is_formed c = form-bad-record _ _ _ (omega arith) refl (sym c.is_formed.ensures ∙ c.if-not-is_formed.true)

pub returns : goal.returns
returns c = form-good _ _ _ (omega arith) refl (sym c.is_formed.ensures ∙ c.if-not-is_formed.false)
