-- `phylip::form::has_plain` meets its contract. Assumes nothing.
use Rattle.std.proofs.Common.{sym, arith, ◌∙◌}
use borrow.Author.Tests.{le-ltb}
use Rattle.phylip.specs.PlaceLaws.{begins-here, begins-past}
use Rattle.phylip.specs.PlaceRowLaws.{plain-within, plain-below, plain-above}
use Rattle.phylip.specs.Rows.{is_plain}
use Rattle.phylip.proofs.form.has_plain.Goals as goal

pub returns-in-32-to-126 : goal.returns-in-32-to-126
returns-in-32-to-126 c = sym (begins-here is_plain _ _ (omega arith) _ (plain-within _ (omega arith) (omega arith)))

pub returns-in_default : goal.returns-in_default
returns-in_default c = sym (begins-here is_plain _ _ (omega arith) _ (plain-below _ (omega arith)))

pub returns-in_default-2 : goal.returns-in_default-2
returns-in_default-2 c = sym (begins-here is_plain _ _ (omega arith) _ (plain-above _ (omega arith)))

pub returns-else-at-f : goal.returns-else-at-f
returns-else-at-f c = le-ltb _ _ (omega arith) ∙ sym (begins-past _ _ _ (omega arith))
