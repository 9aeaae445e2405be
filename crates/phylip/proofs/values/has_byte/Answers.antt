-- `phylip::values::has_byte` meets its contract. Assumes nothing.
use Rattle.std.proofs.Common.{sym, arith, ◌∙◌}
use borrow.Author.Tests.{le-ltb}
use Rattle.phylip.specs.Walk.{is_byte}
use Rattle.phylip.specs.PlaceLaws.{begins-at, begins-past}
use Rattle.phylip.proofs.values.has_byte.Goals as goal

pub returns-then-at-f : goal.returns-then-at-f
unfolding is_byte
returns-then-at-f c = sym (begins-at (is_byte c.args.x) _ _ (omega arith))

pub returns-else-at-f : goal.returns-else-at-f
returns-else-at-f c = le-ltb _ _ (omega arith) ∙ sym (begins-past _ _ _ (omega arith))
