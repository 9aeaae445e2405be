-- `rows::tree_from` meets its contract. Assumes nothing.
use native.Mathlib.Omega.{arith}
use Rattle.layout.specs.InsideLaws.{trees-few, tree-inside}
use Rattle.rows.proofs.tree_from.Goals as goal

pub tree_from-requires : goal.tree_from-requires
tree_from-requires c = record { head_bytes_in_bounds = c.requires.head_at.head-there; i_bound = omega (arith, c.requires.i_bound, trees-few _ c.requires.head_at) }

pub returns : goal.returns
returns c = record { value = c.tree_from.ensures.value; tree_bytes_in_bounds = omega (arith, c.tree_from.ensures.value, tree-inside _ c.requires.head_at _ c.requires.i_bound) }
