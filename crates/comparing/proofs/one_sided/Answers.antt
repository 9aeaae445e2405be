-- `comparing::one_sided` meets its contract. Assumes nothing.
use native.Mathlib.Omega.{arith}
use Rattle.std.proofs.Common.{◌∙◌}
use Rattle.trees.specs.Distance.{one_sided}
use Rattle.answers.specs.AnswerLaws.{number-refused}
use Rattle.opening.specs.GivenLaws.{failed, passed}
use Rattle.store.specs.LentLaws.{not-whole}
use Rattle.rows.specs.ReadLaws.{long}
use Rattle.comparing.specs.CompareLaws.{one-sided-pair, first-missing, second-missing, both-there}
use Rattle.comparing.proofs.one_sided.Goals as goal

pub returns-then-not-is_whole : goal.returns-then-not-is_whole
returns-then-not-is_whole c = number-refused _ _ (not-whole _ _ (failed _ _ c.is_whole.ensures c.if-not-is_whole.true-raw))

pub trees_held-trees-requires : goal.trees_held-trees-requires
trees_held-trees-requires c = long _ (passed _ _ c.is_whole.ensures c.if-not-is_whole.false-raw)

pub returns-then-trees-a : goal.returns-then-trees-a
returns-then-trees-a c =
    let w = passed _ _ c.is_whole.ensures c.if-not-is_whole.false-raw in
    first-missing one_sided _ w _ _ _ (one-sided-pair _ _ _) (omega arith)

pub returns-then-trees-b : goal.returns-then-trees-b
returns-then-trees-b c = second-missing one_sided _ (passed _ _ c.is_whole.ensures c.if-not-is_whole.false-raw) _ _ _ (one-sided-pair _ _ _) (omega arith) (omega arith)

pub one_sided-requires : goal.one_sided-requires
one_sided-requires c = record { s_value = passed _ _ c.is_whole.ensures c.if-not-is_whole.false-raw; a_bound = (omega arith, omega arith) }

pub returns : goal.returns
returns c = both-there one_sided _ (passed _ _ c.is_whole.ensures c.if-not-is_whole.false-raw) _ _ _ (one-sided-pair _ _ _) (omega arith) (omega arith) _ (c.from.ensures ∙ c.one_sided.ensures)
