-- `newick::shape::note` meets its contract. Assumes nothing.
use Rattle.std.proofs.Common.{add-one}
use Rattle.newick.proofs.shape.note.Goals as goal

pub returns : goal.returns
returns c = rw (c.put-2.ensures, c.put.ensures, add-one)
