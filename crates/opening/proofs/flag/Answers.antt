-- `opening::flag` meets its contract: the definition. Assumes nothing.
use Rattle.opening.specs.Given.{flag_of}
use Rattle.opening.proofs.flag.Goals as goal

pub returns-then-kept : goal.returns-then-kept
unfolding flag_of
returns-then-kept c = rw c.if-kept.true

pub returns : goal.returns
unfolding flag_of
returns c = rw c.if-kept.false
