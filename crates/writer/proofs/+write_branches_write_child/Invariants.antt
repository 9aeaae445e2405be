-- `writer::write_branches` and `writer::write_child` meet their contracts together: each calls the other. The measure of the branches is twice the ones
-- of m and r; a child's lies between those of the branches that it is of and of its own. Assumes nothing.
use Rattle.std.proofs.Common.{◌+◌, ◌*◌}
use Rattle.std.specs.Int.Count.{ones}
use Rattle.writer.proofs.+write_branches_write_child.Given as goal

abbrev pub decreases-write_branches : goal.decreases-write_branches
decreases-write_branches l = 2 * (ones l.m + ones l.r)

abbrev pub decreases-write_child : goal.decreases-write_child
decreases-write_child l = 2 * (ones l.x + ones l.x) + 1
