-- `layout::splits_held` meets its contract. Assumes nothing.
use mathlib.Core.Path.{sym, ◌∙◌}
use Rattle.layout.specs.StoreLaws.{splits-held-is}
use Rattle.layout.proofs.splits_held.Goals as goal

pub returns : goal.returns
returns c = record { value = c.number16.ensures.value ∙ sym (splits-held-is _); upper_bound = c.number16.ensures.upper_bound }
