-- The promises of the calls on matrices in PHYLIP's layout leave one outcome each: the answer, and every element of the buffer. Assumes
-- nothing.
--
--   write-matrix-once, read-matrix-once     a matrix written, and one read
use Rattle.std.specs.Prelude.{◌≡◌}
use Rattle.phylip.proofs.write_matrix.Reads as write-matrix
use Rattle.phylip.proofs.read_matrix.Reads as read-matrix
use Rattle.promises.specs.Once.{Once, arg2}
use Rattle.promises.specs.Outcomes.{filled-both}

pub write-matrix-once : Once write-matrix.Post (λ x q r y z. (q ≡ r) × ((arg2 y).now ≡ (arg2 z).now))
write-matrix-once k x q r y z a b = filled-both q r a b

pub read-matrix-once : Once read-matrix.Post (λ x q r y z. (q ≡ r) × ((arg2 y).now ≡ (arg2 z).now))
read-matrix-once k x q r y z a b = filled-both q r a b
