-- `store::lists::union_at` meets its contract. The loop's invariant: the union so far lacks only the masks at the rest. Assumes nothing.
use Rattle.store.specs.Outer.{PartAt}
use Rattle.store.proofs.lists.union_at.Given as goal

abbrev pub invariant-loop-all : goal.invariant-loop-all
invariant-loop-all l = PartAt l.outer l.taxa l.rest l.all

abbrev pub decreases-loop-all : goal.decreases-loop-all
decreases-loop-all l = l.rest
