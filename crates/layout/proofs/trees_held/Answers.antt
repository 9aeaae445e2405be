-- `layout::trees_held` meets its contract. Assumes nothing.
use mathlib.Core.Path.{sym, ◌∙◌}
use Rattle.layout.specs.StoreLaws.{trees-held-is}
use Rattle.layout.proofs.trees_held.Goals as goal

pub returns : goal.returns
returns c = c.number16.ensures.value ∙ sym (trees-held-is _)
