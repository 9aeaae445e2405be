-- `store::splits::identifiers_good` meets its contract. The loop's invariant: the first k identifiers are good. Assumes nothing.
use Rattle.std.proofs.Common.{◌≡◌, ◌≤◌, true}
use Rattle.layout.specs.WholeStore.{all_below, good_identifier}
use Rattle.store.proofs.splits.identifiers_good.Given as goal

abbrev pub invariant-loop-k : goal.invariant-loop-k
invariant-loop-k l = (l.k ≤ l.held) × (all_below (good_identifier l.s) l.k ≡ true)
