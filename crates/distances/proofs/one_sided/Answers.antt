-- `distances::one_sided` meets its contract. Assumes nothing.
use Rattle.std.proofs.Common.{arith}
use Rattle.distances.specs.Marks.{no_marks, marks_of}
use Rattle.distances.proofs.one_sided.Goals as goal

pub lacking-requires : goal.lacking-requires
unfolding marks_of no_marks
lacking-requires c = record { s_value = c.requires.s_value; i_bound = omega (arith, c.requires.a_bound.0, c.requires.a_bound.1); marks_value = c.mark_tree.ensures; j_bound = omega (arith, c.requires.a_bound.0, c.requires.a_bound.1) }
