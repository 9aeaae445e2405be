-- `claiming::claim` meets its contract: each return is a law. Assumes nothing.
use mathlib.Core.Path.{sym, ◌∙◌}
use native.Mathlib.Omega.{arith}
use lib.Seq.{length-take-le}
use Rattle.answers.specs.AnswerLaws.{claim-refused}
use Rattle.rows.specs.ReadLaws.{long}
use Rattle.store.specs.LentLaws.{not-whole}
use Rattle.claiming.specs.AskedLaws.{no-trees, too_long, not-ended, claim-given}
use Rattle.claiming.proofs.claim.Goals as goal

pub returns-then-not-is_whole : goal.returns-then-not-is_whole
returns-then-not-is_whole c = claim-refused _ _ (not-whole _ _ (sym c.is_whole.ensures ∙ c.if-not-is_whole.true))

pub trees_held-requires : goal.trees_held-requires
trees_held-requires c = long _ (sym c.is_whole.ensures ∙ c.if-not-is_whole.false)

pub returns-then-trees_held-eq0 : goal.returns-then-trees_held-eq0
returns-then-trees_held-eq0 c = claim-refused _ _ (no-trees _ (sym c.is_whole.ensures ∙ c.if-not-is_whole.false) _ (omega arith))

pub returns-then-n-gt-MOST_TEXT : goal.returns-then-n-gt-MOST_TEXT
returns-then-n-gt-MOST_TEXT c =
    let w = sym c.is_whole.ensures ∙ c.if-not-is_whole.false in
    claim-refused _ _ (too_long _ w _ (λ z. omega arith) c.text_end-n.ensures.value (omega arith))

pub returns-then-text-n : goal.returns-then-text-n
returns-then-text-n c =
    let w = sym c.is_whole.ensures ∙ c.if-not-is_whole.false in
    claim-refused _ _ (not-ended _ w _ (λ z. omega arith) c.text_end-n.ensures.value (omega arith) (λ f. omega arith))

pub slice_bounds-claim_text-end : goal.slice_bounds-claim_text-end
slice_bounds-claim_text-end c = sym (length-take-le _ _ c.text_end-n.ensures.upper_bound)

pub claim_text-requires : goal.claim_text-requires
claim_text-requires c = record { s_value = sym c.is_whole.ensures ∙ c.if-not-is_whole.false; text_len_bound = omega (arith, length-take-le c.text_end-n.result c.args.text.now (omega arith)) }

pub returns : goal.returns
returns c =
    let w = sym c.is_whole.ensures ∙ c.if-not-is_whole.false in
    c.claim_text.ensures ∙ sym (claim-given _ w _ (λ z. omega arith) c.text_end-n.ensures.value (omega arith) (omega arith))
