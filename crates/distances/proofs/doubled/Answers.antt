-- `distances::doubled` meets its contract. Assumes nothing.
use Rattle.std.proofs.Common.{arith}
use Rattle.distances.specs.Marks.{no_marks, marks_of}
use Rattle.distances.proofs.doubled.Goals as goal

pub distance-requires : goal.distance-requires
unfolding marks_of no_marks
distance-requires c = record { s_value = c.requires.s_value; i_bound = omega (arith, c.requires.a_bound.0, c.requires.a_bound.1); marks_value = c.mark_tree.ensures; j_bound = omega (arith, c.requires.a_bound.0, c.requires.a_bound.1) }
