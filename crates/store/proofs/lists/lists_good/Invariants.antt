-- `store::lists::lists_good` meets its contract. The loop's invariant: the lists below i are good, and counted. Assumes nothing.
use Rattle.std.proofs.Common.{◌≡◌, ◌≤◌, true}
use Rattle.layout.specs.Store.{trees_held_at}
use Rattle.layout.specs.WholeStore.{all_below, good_list}
use Rattle.store.specs.ListTests.{Counted}
use Rattle.store.specs.Outer.{Vacant}
use Rattle.store.proofs.lists.lists_good.Given as goal

abbrev pub invariant-loop-i : goal.invariant-loop-i
invariant-loop-i l = (l.i ≤ l.trees) × (l.trees ≡ trees_held_at l.s) × (all_below (good_list l.s) l.i ≡ true) × Vacant l.outer × Counted l.s l.i l.counts
