-- `splitfile::reading::give_records` meets its contract. Assumes nothing.
use Rattle.std.proofs.Common.{inl, inr, arith}
use Rattle.splitfile.specs.ReadingLaws.{read_short, read-given}
use Rattle.splitfile.proofs.reading.give_records.Goals as goal

pub returns-then-masks-n : goal.returns-then-masks-n
returns-then-masks-n c = read_short _ _ _ _ (inl (omega arith))

pub returns-then-counts-n : goal.returns-then-counts-n
returns-then-counts-n c = read_short _ _ _ _ (inr (omega arith))

pub returns : goal.returns
returns c = read-given _ _ _ _ _ _ _ c.known_trees.ensures (omega arith) (omega arith) c.copy_records.ensures.masks_after c.copy_records.ensures.counts_after
