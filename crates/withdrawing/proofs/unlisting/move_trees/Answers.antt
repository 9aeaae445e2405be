-- `unlisting::move_trees` meets its contract: the steps move all of a tree. Assumes nothing.
use native.Mathlib.Omega.{arith}
use Rattle.layout.specs.InsideLaws.{trees-few}
use Rattle.withdrawing.proofs.MoveTreesLaws.{inside, moved}
use Rattle.withdrawing.proofs.unlisting.move_trees.Goals as goal

pub tree_from-to-requires : goal.tree_from-to-requires
tree_from-to-requires c = record { head_bytes_in_bounds = c.requires.head_at.head-there; i_bound = omega (arith, c.requires.k_bound, trees-few _ c.requires.head_at) }

pub overflow_mul-later : goal.overflow_mul-later
overflow_mul-later c = omega (arith, c.trees_held-last.ensures, trees-few _ c.requires.head_at)

pub copy_within-requires : goal.copy_within-requires
copy_within-requires c = let whole = inside _ c.requires.head_at _ _ _ c.requires.k_bound c.trees_held-last.ensures c.tree_from-to.ensures.value _ c.move_lengths.ensures in record { n_in_bounds = whole.0; n_in_bounds_2 = whole.1 }

pub overflow_cast-last : goal.overflow_cast-last
overflow_cast-last c = omega (arith, c.trees_held-last.ensures, trees-few _ c.requires.head_at)

pub returns : goal.returns
returns c = moved _ c.requires.head_at _ _ _ c.requires.k_bound c.trees_held-last.ensures c.tree_from-to.ensures.value _ c.move_lengths.ensures _ _ c.copy_within.ensures c.put16.ensures
