-- `comparing::doubled` meets its contract. Assumes nothing.
use native.Mathlib.Omega.{arith}
use Rattle.std.proofs.Common.{◌∙◌}
use Rattle.trees.specs.Distance.{doubled}
use Rattle.answers.specs.AnswerLaws.{number-refused}
use Rattle.opening.specs.GivenLaws.{failed, passed}
use Rattle.store.specs.LentLaws.{not-whole}
use Rattle.rows.specs.ReadLaws.{long}
use Rattle.comparing.specs.CompareLaws.{doubled-pair, first-missing, second-missing, both-there}
use Rattle.comparing.proofs.doubled.Goals as goal

pub returns-then-not-is_whole : goal.returns-then-not-is_whole
returns-then-not-is_whole c = number-refused _ _ (not-whole _ _ (failed _ _ c.is_whole.ensures c.if-not-is_whole.true-raw))

pub trees_held-held-requires : goal.trees_held-held-requires
trees_held-held-requires c = long _ (passed _ _ c.is_whole.ensures c.if-not-is_whole.false-raw)

pub returns-then-held-a : goal.returns-then-held-a
returns-then-held-a c =
    let w = passed _ _ c.is_whole.ensures c.if-not-is_whole.false-raw in
    first-missing doubled _ w _ _ _ (doubled-pair _ _ _) (omega arith)

pub returns-then-held-b : goal.returns-then-held-b
returns-then-held-b c = second-missing doubled _ (passed _ _ c.is_whole.ensures c.if-not-is_whole.false-raw) _ _ _ (doubled-pair _ _ _) (omega arith) (omega arith)

pub doubled-requires : goal.doubled-requires
doubled-requires c = record { s_value = passed _ _ c.is_whole.ensures c.if-not-is_whole.false-raw; a_bound = (omega arith, omega arith) }

pub returns : goal.returns
returns c = both-there doubled _ (passed _ _ c.is_whole.ensures c.if-not-is_whole.false-raw) _ _ _ (doubled-pair _ _ _) (omega arith) (omega arith) _ (c.from.ensures ∙ c.doubled.ensures)
