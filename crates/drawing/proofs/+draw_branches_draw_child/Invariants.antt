-- `drawing::draw_branches` and `drawing::draw_child` meet their contracts together: each calls the other. The ones of the masks fall. Assumes nothing.
use Rattle.std.proofs.Common.{◌+◌, ◌*◌}
use Rattle.std.specs.Int.Count.{ones}
use Rattle.drawing.proofs.+draw_branches_draw_child.Given as goal

abbrev pub decreases-draw_branches : goal.decreases-draw_branches
decreases-draw_branches l = 2 * (ones l.m + ones l.r)

abbrev pub decreases-draw_child : goal.decreases-draw_child
decreases-draw_child l = 2 * (ones l.x + ones l.x) + 1
