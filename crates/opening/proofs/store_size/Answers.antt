-- `opening::store_size` meets its contract: the definition, with lengths and without. Assumes nothing.
use Rattle.opening.specs.GivenLaws.{size-kept, size-not-kept}
use Rattle.opening.proofs.store_size.Goals as goal

pub returns-then-kept : goal.returns-then-kept
returns-then-kept c = size-kept _ _ _ _ _ _ c.if-kept.true

pub returns : goal.returns
returns c = size-not-kept _ _ _ _ _ _ c.if-kept.false
