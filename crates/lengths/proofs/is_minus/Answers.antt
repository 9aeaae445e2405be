-- `lengths::is_minus` meets its contract. Assumes nothing.
use borrow.Author.Rules.{rules}
use Rattle.lengths.specs.ReadLaws.{minus-at, minus-none}
use Rattle.lengths.proofs.is_minus.Goals as goal

pub returns-then-from-text : goal.returns-then-from-text
returns-then-from-text c = minus-at _ _ (search rules)

pub returns : goal.returns
returns c = minus-none _ _ (search rules)
