-- `splitfile::reading::copy_records` meets its contract. The loop's invariant: the first i masks and counts are copied. Assumes nothing.
use Rattle.std.proofs.Common.{◌≡◌, ◌≤◌, ◌++◌, length, take, drop}
use Rattle.trees.specs.SplitFile.{records_in, masks_of}
use Rattle.splitfile.specs.Reading.{counts_of}
use Rattle.splitfile.proofs.reading.copy_records.Given as goal

abbrev pub invariant-loop-i : goal.invariant-loop-i
invariant-loop-i l =
    (l.i ≤ l.n)
    × (length l.masks ≡ length l.initial.masks)
    × (length l.counts ≡ length l.initial.counts)
    × (l.masks ≡ take l.i (masks_of (records_in l.n l.file)) ++ drop l.i l.initial.masks)
    × (l.counts ≡ take l.i (counts_of (records_in l.n l.file)) ++ drop l.i l.initial.counts)
