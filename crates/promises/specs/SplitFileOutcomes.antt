-- The promises of the calls on split files leave one outcome each: the answer, and every element of the buffers. Assumes nothing.
--
--   write-splits-once, read-splits-once, merge-once     a file written, read, or made of two
--   strict-tree-once, majority-tree-once                the trees of a file
use Rattle.std.specs.Prelude.{◌≡◌}
use Rattle.splitfile.proofs.write_splits.Reads as write-splits
use Rattle.splitfile.proofs.read_splits.Reads as read-splits
use Rattle.splitfile.proofs.merge.Reads as merge
use Rattle.splitfile.proofs.strict_tree.Reads as Strict-tree
use Rattle.splitfile.proofs.majority_tree.Reads as majority-tree
use Rattle.promises.specs.Once.{Once, arg2, arg3, arg4}
use Rattle.promises.specs.Outcomes.{both, lengths-both, filled-both}

pub write-splits-once : Once write-splits.Post (λ x q r y z. (q ≡ r) × ((arg2 y).now ≡ (arg2 z).now))
write-splits-once k x q r y z a b = filled-both q r a b

pub read-splits-once : Once read-splits.Post (λ x q r y z. (q ≡ r) × ((arg3 y).now ≡ (arg3 z).now) × ((arg4 y).now ≡ (arg4 z).now))
read-splits-once k x q r y z a b = (lengths-both q r a.0 b.0, both a.1.0 b.1.0, both a.1.1 b.1.1)

pub merge-once : Once merge.Post (λ x q r y z. (q ≡ r) × ((arg4 y).now ≡ (arg4 z).now))
merge-once k x q r y z a b = filled-both q r a b

pub strict-tree-once : Once Strict-tree.Post (λ x q r y z. (q ≡ r) × ((arg3 y).now ≡ (arg3 z).now))
strict-tree-once k x q r y z a b = filled-both q r a b

pub majority-tree-once : Once majority-tree.Post (λ x q r y z. (q ≡ r) × ((arg3 y).now ≡ (arg3 z).now))
majority-tree-once k x q r y z a b = filled-both q r a b
