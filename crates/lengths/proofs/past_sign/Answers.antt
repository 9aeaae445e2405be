-- `lengths::past_sign` meets its contract. Assumes nothing.
use borrow.Author.Rules.{rules}
use Rattle.lengths.specs.ReadLaws.{sign-past, sign-none, sign-end, minus-sign, plus-sign, no_sign}
use Rattle.lengths.proofs.past_sign.Goals as goal

pub returns-then-b-eq45 : goal.returns-then-b-eq45
returns-then-b-eq45 c = sign-past _ _ (search rules) (minus-sign _ c.if-b-eq45.true)

pub returns-then-b-eq43 : goal.returns-then-b-eq43
returns-then-b-eq43 c = sign-past _ _ (search rules) (plus-sign _ c.if-b-eq43.true)

pub returns-else-b-eq43 : goal.returns-else-b-eq43
returns-else-b-eq43 c = sign-none _ _ (search rules) (no_sign _ c.if-b-eq45.false c.if-b-eq43.false)

pub returns-else-from-text : goal.returns-else-from-text
returns-else-from-text c = sign-end _ _ (search rules) (search rules)
