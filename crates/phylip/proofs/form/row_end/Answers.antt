-- `phylip::form::row_end` meets its contract. Assumes nothing.
use native.Mathlib.Omega.{arith}
use mathlib.Core.Path.{sym, ◌∙◌}
use Rattle.phylip.specs.PlaceRowLaws.{no_place, row-unnamed, row_ends, name-within}
use Rattle.phylip.proofs.form.row_end.Goals as goal

pub returns-then-not-is_name : goal.returns-then-not-is_name
returns-then-not-is_name c = no_place _ _ _ (row-unnamed _ _ (sym c.is_name.ensures ∙ c.if-not-is_name.true))

pub overflow_add-i : goal.overflow_add-i
overflow_add-i c = let h = name-within _ _ (sym c.is_name.ensures ∙ c.if-not-is_name.false) in omega arith

pub returns : goal.returns
returns c = row_ends _ _ _ _ (sym c.is_name.ensures ∙ c.if-not-is_name.false) c.values_end.ensures
