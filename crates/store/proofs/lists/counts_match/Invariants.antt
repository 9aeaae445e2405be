-- `store::lists::counts_match` meets its contract. The loop's invariant: the counts below k are right. Assumes nothing.
use Rattle.std.proofs.Common.{◌≡◌, ◌≤◌, true}
use Rattle.trees.specs.Opening.{most_room}
use Rattle.layout.specs.Store.{splits_held_at}
use Rattle.layout.specs.WholeStore.{all_below, good_count}
use Rattle.store.proofs.lists.counts_match.Given as goal

abbrev pub invariant-loop-k : goal.invariant-loop-k
invariant-loop-k l = (l.k ≤ l.splits) × (l.splits ≡ splits_held_at l.s) × (l.splits ≤ most_room) × (all_below (good_count l.s) l.k ≡ true)
