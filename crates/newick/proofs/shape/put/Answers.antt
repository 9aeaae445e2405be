-- `newick::shape::put` meets its contract. Assumes nothing.
use Rattle.std.proofs.Common.{sym}
use lib.Seq.{set_out}
use Rattle.newick.proofs.shape.put.Goals as goal

pub returns-else-i-list : goal.returns-else-i-list
returns-else-i-list g c = sym (set_out _ _ _ c.if-i-list.false)
