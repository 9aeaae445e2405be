-- `splitfile::form::is_formed` meets its contract. Assumes nothing.
use Rattle.std.proofs.Common.{sym, ◌∙◌, arith}
use Rattle.splitfile.specs.FormLaws.{formed-none, formed-last, formed-rising}
use Rattle.splitfile.proofs.form.is_formed.Goals as goal

pub returns-then-n-eq0 : goal.returns-then-n-eq0
returns-then-n-eq0 c = sym (formed-none _ _ _ (omega arith))

pub returns-then-not-is_proper : goal.returns-then-not-is_proper
returns-then-not-is_proper c = sym (formed-last _ _ _ (λ e. omega arith) _ c.mask_of.ensures (sym c.is_proper.ensures ∙ c.if-not-is_proper.true))

pub returns : goal.returns
returns c =
    let p = sym c.is_proper.ensures ∙ c.if-not-is_proper.false in
    c.are_rising.ensures ∙ sym (formed-rising _ _ _ (λ e. omega arith) _ c.mask_of.ensures p _ c.trees_of.ensures)
