-- `store::splits::masks_good` meets its contract. The loop's invariant: the first k masks are good, and `last` is the last of them.
-- Assumes nothing.
use Rattle.std.proofs.Common.{◌≡◌, ◌≤◌, true}
use Rattle.layout.specs.WholeStore.{all_below}
use Rattle.store.specs.Splits.{mask_before, good_mask}
use Rattle.store.proofs.splits.masks_good.Given as goal

abbrev pub invariant-loop-k : goal.invariant-loop-k
invariant-loop-k l = (l.k ≤ l.held) × (l.last ≡ mask_before l.s l.k) × (all_below (good_mask l.s) l.k ≡ true)
