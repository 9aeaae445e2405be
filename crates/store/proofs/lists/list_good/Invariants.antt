-- `store::lists::list_good` meets its contract. The loop's invariant: the first j splits are passed. Assumes nothing.
use Rattle.std.proofs.Common.{◌≡◌, ◌≤◌, length}
use Rattle.layout.specs.Store.{splits_held_at, list_at, most_splits}
use Rattle.store.specs.ListTests.{Walked}
use Rattle.store.proofs.lists.list_good.Given as goal

abbrev pub invariant-loop-j : goal.invariant-loop-j
invariant-loop-j l = (l.j ≤ l.n) × (l.n ≡ length (list_at l.s l.i)) × (l.n ≤ most_splits) × (l.held ≡ splits_held_at l.s) × Walked l.s l.i l.j l.last l.outer l.heads l.covered l.counts
