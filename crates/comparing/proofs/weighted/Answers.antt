-- `comparing::weighted` meets its contract. Assumes nothing.
use mathlib.Core.Path.{sym, ◌∙◌}
use native.Mathlib.Omega.{arith}
use Rattle.answers.specs.AnswerLaws.{weight-refused}
use Rattle.opening.specs.GivenLaws.{failed, passed}
use Rattle.store.specs.LentLaws.{not-whole}
use Rattle.rows.specs.ReadLaws.{long}
use Rattle.comparing.specs.WeighedLaws.{weighted-missing, weighted-other, weighted-unkept, weighted-found}
use Rattle.comparing.proofs.weighted.Goals as goal

pub returns-then-not-is_whole : goal.returns-then-not-is_whole
returns-then-not-is_whole c = weight-refused _ _ (not-whole _ _ (failed _ _ c.is_whole.ensures c.if-not-is_whole.true-raw))

pub trees_held-accepted-requires : goal.trees_held-accepted-requires
trees_held-accepted-requires c = long _ (passed _ _ c.is_whole.ensures c.if-not-is_whole.false-raw)

pub returns-then-accepted-a : goal.returns-then-accepted-a
returns-then-accepted-a c =
    let w = passed _ _ c.is_whole.ensures c.if-not-is_whole.false-raw in
    weight-refused _ _ (weighted-missing _ w _ _ (omega arith))

pub returns-then-accepted-b : goal.returns-then-accepted-b
returns-then-accepted-b c = weight-refused _ _ (weighted-other _ (passed _ _ c.is_whole.ensures c.if-not-is_whole.false-raw) _ _ (omega arith) (omega arith))

pub kept-requires : goal.kept-requires
kept-requires c = long _ (passed _ _ c.is_whole.ensures c.if-not-is_whole.false-raw)

pub returns-then-kept-eq0 : goal.returns-then-kept-eq0
returns-then-kept-eq0 c =
    let w = passed _ _ c.is_whole.ensures c.if-not-is_whole.false-raw in
    weight-refused _ _ (weighted-unkept _ w _ _ (omega arith) (omega arith) (omega (arith, c.kept.ensures.value)))

pub weigh-requires : goal.weigh-requires
weigh-requires c = record { s_value = passed _ _ c.is_whole.ensures c.if-not-is_whole.false-raw; bound = omega (arith, c.kept.ensures.value); a_bound = (omega arith, omega arith) }

pub returns : goal.returns
returns c =
    let w = passed _ _ c.is_whole.ensures c.if-not-is_whole.false-raw in
    c.weigh.ensures ∙ sym (weighted-found _ w _ _ (omega arith) (omega arith) (λ z. omega (arith, c.kept.ensures.value)))
