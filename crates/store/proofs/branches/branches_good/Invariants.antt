-- `store::branches::branches_good` meets its contract. The loop's invariant: the lengths of the trees below i are good. Assumes nothing.
use Rattle.std.proofs.Common.{◌≡◌, ◌≤◌, true}
use Rattle.layout.specs.Store.{trees_held_at}
use Rattle.layout.specs.WholeStore.{all_below, good_branches_at}
use Rattle.store.proofs.branches.branches_good.Given as goal

abbrev pub invariant-loop-i : goal.invariant-loop-i
invariant-loop-i l = (l.i ≤ l.trees) × (l.trees ≡ trees_held_at l.s) × (all_below (good_branches_at l.s) l.i ≡ true)
