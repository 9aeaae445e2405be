-- `rows::splits_in` meets its contract. Assumes nothing.
use mathlib.Core.Path.{sym, ◌∙◌}
use Rattle.layout.specs.StoreLaws.{list_length}
use Rattle.rows.proofs.splits_in.Goals as goal

pub tree_from-requires : goal.tree_from-requires
tree_from-requires c = record { head_at = c.requires.head_at; i_bound = c.requires.i_bound }

pub returns : goal.returns
returns c = c.number16.ensures.value ∙ rw c.tree_from.ensures.value (sym (list_length _ _ c.requires.i_bound))
