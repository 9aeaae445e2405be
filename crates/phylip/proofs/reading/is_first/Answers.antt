-- `phylip::reading::is_first` meets its contract: its tests, one after another. Assumes nothing.
use native.Mathlib.Omega.{arith}
use mathlib.Core.Path.{sym, ◌∙◌}
use Rattle.phylip.specs.ReadingLaws.{first-undigit, first-large, first_ends}
use Rattle.phylip.proofs.reading.is_first.Goals as goal

pub returns-then-not-has_digit : goal.returns-then-not-has_digit
returns-then-not-has_digit c = sym (first-undigit _ (sym c.has_digit.ensures ∙ c.if-not-has_digit.true))

pub returns-then-n-gt-TREES : goal.returns-then-n-gt-TREES
returns-then-n-gt-TREES c = sym (first-large _ _ (sym c.has_digit.ensures ∙ c.if-not-has_digit.false) c.number_at-n.ensures (omega arith))

pub returns : goal.returns
returns c =
    c.has_byte.ensures
    ∙ sym (first_ends _ _ (sym c.has_digit.ensures ∙ c.if-not-has_digit.false) c.number_at-n.ensures (omega arith))
