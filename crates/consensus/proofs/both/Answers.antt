-- `consensus::both` meets its contract. Assumes nothing.
use Rattle.std.proofs.Common.{sym, ◌∙◌}
use Rattle.answers.specs.AnswerLaws.{both-refused, both-as}
use Rattle.store.specs.LentLaws.{not-whole, when_whole}
use Rattle.consensus.proofs.both.Goals as goal

pub returns-then-not-is_whole : goal.returns-then-not-is_whole
returns-then-not-is_whole c = both-refused _ _ _ _ (not-whole _ _ (sym c.is_whole.ensures ∙ c.if-not-is_whole.true))

pub write_both-requires : goal.write_both-requires
write_both-requires c = sym c.is_whole.ensures ∙ c.if-not-is_whole.false

pub returns : goal.returns
returns c =
    let a = c.args in
    let w = sym c.is_whole.ensures ∙ c.if-not-is_whole.false in
    both-as _ a.strict.now a.majority.now _ (when_whole _ _ w) _ _ _ c.write_both.ensures
