-- `newick::shape::read_node` and `read_nodes` meet their contracts together: each calls the other. Assumes nothing.
use Rattle.std.proofs.Common.{◌+◌, ◌-◌, ◌*◌, length}
use Rattle.newick.proofs.ShapeLaws.{Sofar}
use Rattle.newick.proofs.shape.+read_node_read_nodes.Given as goal

abbrev pub decreases-read_node : goal.decreases-read_node
decreases-read_node l = 2 * (length l.text.now - l.c.at)

abbrev pub decreases-read_nodes : goal.decreases-read_nodes
decreases-read_nodes l = 2 * (length l.text.now - l.c.at) + 1

abbrev pub invariant-read_nodes-loop-at : goal.invariant-read_nodes-loop-at
invariant-read_nodes-loop-at l = Sofar l.text l.depth l.c l.initial.tokens l.initial.nodes l.k l.d l.tokens l.nodes

abbrev pub decreases-read_nodes-loop-at : goal.decreases-read_nodes-loop-at
decreases-read_nodes-loop-at l = length l.text - l.d.at
