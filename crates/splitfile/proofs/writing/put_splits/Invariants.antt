-- `splitfile::writing::put_splits` meets its contract. The loop's invariant: the first k records are written. Assumes nothing.
use Rattle.std.proofs.Common.{◌≡◌, ◌≤◌, length, take}
use Rattle.trees.specs.SplitFile.{splits_of}
use Rattle.layout.specs.Store.{held_at}
use Rattle.splitfile.specs.Entries.{with_records}
use Rattle.splitfile.proofs.writing.put_splits.Given as goal

abbrev pub invariant-loop-k : goal.invariant-loop-k
invariant-loop-k l = (l.k ≤ l.held) × (length l.out ≡ length l.initial.out) × (l.out ≡ with_records (take l.k (splits_of (held_at l.s).trees)) l.initial.out)
