-- `phylip::form::value_end` meets its contract: its tests, one after another. Assumes nothing.
use native.Mathlib.Omega.{arith}
use mathlib.Core.Path.{sym, ◌∙◌}
use Rattle.phylip.specs.PlaceRowLaws.{no_place, value-unspaced, value-undigit, value-large, value_found}
use Rattle.phylip.proofs.form.value_end.Goals as goal

pub returns-then-not-has_byte : goal.returns-then-not-has_byte
returns-then-not-has_byte c = no_place _ _ _ (value-unspaced _ (sym c.has_byte.ensures ∙ c.if-not-has_byte.true))

pub returns-then-not-has_digit : goal.returns-then-not-has_digit
returns-then-not-has_digit c = no_place _ _ _ (value-undigit _ _ c.spaces_end-j.ensures (sym c.has_digit.ensures ∙ c.if-not-has_digit.true))

pub returns-then-v-gt-LARGEST : goal.returns-then-v-gt-LARGEST
returns-then-v-gt-LARGEST c = no_place _ _ _ (value-large _ _ _ _ c.spaces_end-j.ensures c.number_at-v.ensures (omega arith))

pub returns : goal.returns
returns c =
    value_found _ _ _ _ c.spaces_end-j.ensures c.number_at-v.ensures
    (sym c.has_byte.ensures ∙ c.if-not-has_byte.false)
    (sym c.has_digit.ensures ∙ c.if-not-has_digit.false)
    (omega arith)
