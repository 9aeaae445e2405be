-- `store::splits::chains_good` meets its contract. The loop's invariant: the links of the first k splits are good, and `highest` has
-- for each place the highest of these splits. Assumes nothing.
use Rattle.std.proofs.Common.{◌≡◌, ◌≤◌, true, length}
use Rattle.trees.specs.Opening.{most_room}
use Rattle.layout.specs.WholeStore.{all_below, good_link}
use Rattle.store.specs.Splits.{Highest}
use Rattle.store.proofs.splits.chains_good.Given as goal

abbrev pub invariant-loop-k : goal.invariant-loop-k
invariant-loop-k l = (l.k ≤ l.held) × (l.held ≤ most_room) × (length l.highest ≡ 8192) × Highest l.s l.k l.highest × (all_below (good_link l.s) l.k ≡ true)
