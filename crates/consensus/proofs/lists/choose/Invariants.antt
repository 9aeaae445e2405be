-- `consensus::lists::choose` meets its contract. The loop's invariant: of the splits below k those in enough trees are the first n of the list. Assumes nothing.
use Prim.Native.Nat.{◌≤◌}
use mathlib.Core.Path.{◌≡◌}
use lib.ListN.{length}
use Rattle.consensus.specs.Chosen.{Chose}
use Rattle.consensus.proofs.lists.choose.Given as goal

abbrev pub invariant-loop-k : goal.invariant-loop-k
invariant-loop-k l = (l.k ≤ l.held) × (l.n ≤ 64) × (length l.list ≡ 64) × Chose l.least l.s l.list l.n l.k
