-- `consensus::strict` meets its contract. Assumes nothing.
use Rattle.std.proofs.Common.{sym, ◌∙◌}
use Rattle.answers.specs.AnswerLaws.{filled-refused, filled-as}
use Rattle.store.specs.LentLaws.{not-whole, when_whole}
use Rattle.consensus.proofs.strict.Goals as goal

pub returns-then-not-is_whole : goal.returns-then-not-is_whole
returns-then-not-is_whole c = let whole = filled-refused _ _ _ (not-whole _ _ (sym c.is_whole.ensures ∙ c.if-not-is_whole.true)) in record { result_value = whole.0; out_after = whole.1 }

pub write_strict-requires : goal.write_strict-requires
write_strict-requires c = sym c.is_whole.ensures ∙ c.if-not-is_whole.false

pub returns : goal.returns
returns c = let w = sym c.is_whole.ensures ∙ c.if-not-is_whole.false in let whole = filled-as _ c.args.out.now _ (when_whole _ _ w) _ _ c.write_strict.ensures in record { result_value = whole.0; out_after = whole.1 }
