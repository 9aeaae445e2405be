-- `store::lists::lanes_good` meets its contract. The loop's invariant: the lanes below l are in range. Assumes nothing.
use Rattle.std.proofs.Common.{◌≡◌, ◌≤◌, true}
use Rattle.head.specs.Head.{numbers_at}
use Rattle.layout.specs.WholeStore.{all_below, good_lane_at}
use Rattle.store.proofs.lists.lanes_good.Given as goal

abbrev pub invariant-loop-l : goal.invariant-loop-l
invariant-loop-l l = (l.l ≤ l.lanes) × (l.lanes ≡ (numbers_at l.s).lanes) × (all_below (good_lane_at l.s) l.l ≡ true)
