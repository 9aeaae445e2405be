-- `store::branches::lengths_good` meets its contract. The loop's invariant: the lengths from j on decide. Assumes nothing.
use Rattle.std.proofs.Common.{◌≡◌, ◌≤◌, length, drop}
use Rattle.trees.specs.Plain.{every}
use Rattle.trees.specs.Whole.{good_length}
use Rattle.head.specs.Head.{numbers_at}
use Rattle.layout.specs.Store.{lengths_from, branches_at}
use Rattle.layout.specs.WholeStore.{good_branches_at}
use Rattle.store.proofs.branches.lengths_good.Given as goal

abbrev pub invariant-loop-j : goal.invariant-loop-j
invariant-loop-j l = (l.j ≤ l.n) × (l.from ≡ lengths_from (numbers_at l.s) l.i) × (l.n ≡ length (branches_at l.s l.i)) × (good_branches_at l.s l.i ≡ every good_length (drop l.j (branches_at l.s l.i)))
