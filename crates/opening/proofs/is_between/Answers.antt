-- `opening::is_between` meets its contract: the definition, one test after the other. Assumes nothing.
use borrow.Author.Tests.{le-leb, lt-leb}
use Rattle.opening.proofs.is_between.Goals as goal

pub returns-then-x-least : goal.returns-then-x-least
returns-then-x-least c = rw (lt-leb _ _ c.if-x-least.true)

pub returns : goal.returns
returns c = rw (le-leb _ _ c.if-x-least.false)
