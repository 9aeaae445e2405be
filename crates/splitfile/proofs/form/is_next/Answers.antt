-- `splitfile::form::is_next` meets its contract: its tests, one after another. Assumes nothing.
use Rattle.std.proofs.Common.{sym, ◌∙◌, arith}
use Rattle.splitfile.specs.FormLaws.{next-not, next-few, next-counted}
use Rattle.splitfile.proofs.form.is_next.Goals as goal

pub returns-then-not-comes_before : goal.returns-then-not-comes_before
returns-then-not-comes_before c = sym (next-not _ _ _ _ c.mask_of-m.ensures (sym c.comes_before.ensures ∙ c.if-not-comes_before.true))

pub returns-then-is_empty : goal.returns-then-is_empty
returns-then-is_empty c =
    let b = sym c.comes_before.ensures ∙ c.if-not-comes_before.false in
    sym (next-few _ _ _ _ c.mask_of-m.ensures b (omega arith) _ c.without_lowest.ensures (sym c.is_empty.ensures ∙ c.if-is_empty.true))

pub returns : goal.returns
returns c =
    let b = sym c.comes_before.ensures ∙ c.if-not-comes_before.false in
    c.is_counted.ensures
    ∙ sym (next-counted _ _ _ _ c.mask_of-m.ensures b (omega arith) _ c.without_lowest.ensures (sym c.is_empty.ensures ∙ c.if-is_empty.false))
