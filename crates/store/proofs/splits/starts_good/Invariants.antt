-- `store::splits::starts_good` meets its contract. The loop's invariant: the first p places have good starts. Assumes nothing.
use Rattle.std.proofs.Common.{◌≡◌, ◌≤◌, true}
use Rattle.layout.specs.WholeStore.{all_below, good_start}
use Rattle.store.proofs.splits.starts_good.Given as goal

abbrev pub invariant-loop-p : goal.invariant-loop-p
invariant-loop-p l = (l.p ≤ l.n) × (l.n ≤ 8192) × (all_below (good_start l.s) l.p ≡ true)
