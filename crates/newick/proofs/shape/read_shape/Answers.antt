-- `newick::shape::read_shape` meets its contract. Assumes nothing.
use Rattle.newick.proofs.ShapeLaws.{shape-good, shape-fault}
use Rattle.newick.proofs.shape.read_shape.Goals as goal

pub returns-then-r-text : goal.returns-then-r-text
returns-then-r-text c = shape-good _ _ _ _ _ _ c.read_node-r.ensures c.if-r-text.true

pub returns : goal.returns
returns c = shape-fault _ _ _ _ _ _ c.read_node-r.ensures _ c.if-r-text.false c.fault.ensures
