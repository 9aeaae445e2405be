-- `clib::given::claimed` meets its contract. Assumes nothing.
use mathlib.Core.Path.{◌≡◌}
use Rattle.answers.specs.declared.Claim.TheVariants as claim
use Rattle.clib.specs.AnswersLaws.{claim-refused, claim-same, claim-text, claim-majority}
use Rattle.clib.proofs.given.claimed.Goals as goal

pub returns-in-Err : goal.returns-in-Err
returns-in-Err c = claim-refused _ _ _ c.refusal_number.ensures c.in-Err.is

pub returns-in-Ok-Same : goal.returns-in-Ok-Same
returns-in-Ok-Same c =
    let e : c.in-Ok-Same.field-0 ≡ claim.Same = rw c.in-Ok-Same.is at c.in-Ok-Same.field-0-is in
    claim-same _ (rw e at c.in-Ok-Same.is)

pub returns-in-Ok-Text : goal.returns-in-Ok-Text
returns-in-Ok-Text c =
    let e : c.in-Ok-Text.field-0 ≡ claim.Text c.in-Ok-Text.m = rw c.in-Ok-Text.is at c.in-Ok-Text.field-0-is in
    claim-text _ _ (rw e at c.in-Ok-Text.is)

pub returns-in-Ok-Majority : goal.returns-in-Ok-Majority
returns-in-Ok-Majority c =
    let e : c.in-Ok-Majority.field-0 ≡ claim.Majority c.in-Ok-Majority.m = rw c.in-Ok-Majority.is at c.in-Ok-Majority.field-0-is in
    claim-majority _ _ (rw e at c.in-Ok-Majority.is)
