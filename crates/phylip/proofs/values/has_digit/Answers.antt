-- `phylip::values::has_digit` meets its contract. Assumes nothing.
use Rattle.std.proofs.Common.{sym, arith, ◌∙◌}
use borrow.Author.Tests.{le-ltb}
use Rattle.trees.specs.Length.{is_digit}
use Rattle.phylip.specs.PlaceLaws.{begins-at, begins-past, ascii-digit}
use Rattle.phylip.proofs.values.has_digit.Goals as goal

pub returns-then-at-f : goal.returns-then-at-f
returns-then-at-f c = c.is_ascii_digit.ensures.value ∙ ascii-digit _ ∙ sym (begins-at is_digit _ _ (omega arith))

pub returns-else-at-f : goal.returns-else-at-f
returns-else-at-f c = le-ltb _ _ (omega arith) ∙ sym (begins-past _ _ _ (omega arith))
