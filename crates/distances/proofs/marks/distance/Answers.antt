-- `distances::marks::distance` meets its contract: what tree i has and tree j has not is known from the lengths. Assumes nothing.
use Rattle.std.proofs.Common.{arith}
use Rattle.trees.specs.Distance.{doubled}
use Rattle.distances.specs.WholeTreeLaws.{head_at, list-few, trees-balance}
use Rattle.distances.proofs.marks.distance.Goals as goal

pub splits_in-requires : goal.splits_in-requires
splits_in-requires c = record { head_at = head_at _ c.requires.s_value; i_bound = c.requires.i_bound }

pub overflow_add-there : goal.overflow_add-there
overflow_add-there c = omega (arith, c.splits_in.ensures, list-few _ c.requires.s_value _ c.requires.i_bound, c.lacking-here.ensures.upper_bound)

pub splits_in-requires-2 : goal.splits_in-requires-2
splits_in-requires-2 c = record { head_at = head_at _ c.requires.s_value; i_bound = c.requires.j_bound }

pub overflow_sub-there : goal.overflow_sub-there
overflow_sub-there c =
    let b = trees-balance _ c.requires.s_value c.args.i c.args.j c.requires.i_bound c.requires.j_bound in
    omega (arith, b, c.splits_in-2.ensures, c.splits_in.ensures, c.lacking-here.ensures.value)

pub overflow_add-result : goal.overflow_add-result
overflow_add-result c = omega (arith, c.splits_in.ensures, list-few _ c.requires.s_value _ c.requires.i_bound, c.lacking-here.ensures.upper_bound)

pub overflow_cast-result : goal.overflow_cast-result
overflow_cast-result c = omega (arith, c.splits_in.ensures, list-few _ c.requires.s_value _ c.requires.i_bound, c.lacking-here.ensures.upper_bound)

pub returns : goal.returns
unfolding doubled
returns c =
    let b = trees-balance _ c.requires.s_value c.args.i c.args.j c.requires.i_bound c.requires.j_bound in
    omega (arith, b, c.splits_in-2.ensures, c.splits_in.ensures, c.lacking-here.ensures.value)
