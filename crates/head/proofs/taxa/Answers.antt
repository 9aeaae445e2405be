-- `head::taxa` meets its contract: the number of taxa, as `numbers_at` reads it. Assumes nothing.
use Rattle.std.proofs.Common.{rules}
use Rattle.head.specs.Head.{numbers_at}
use Rattle.head.proofs.taxa.Goals as goal

pub returns : goal.returns
unfolding numbers_at
returns c = record { value = search rules; upper_bound = search rules }
