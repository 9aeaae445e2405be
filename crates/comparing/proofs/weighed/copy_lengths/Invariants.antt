-- `comparing::weighed::copy_lengths` meets its contract. The loop's invariant: the first j lengths are given, and copied. Assumes nothing.
use Prim.Native.Nat.{◌≤◌}
use mathlib.Core.Path.{◌≡◌}
use mathlib.Core.Option.{some}
use lib.ListN.{length, take}
use Rattle.trees.specs.Questions.{all_given}
use Rattle.layout.specs.Store.{branches_at}
use Rattle.comparing.proofs.weighed.copy_lengths.Given as goal

abbrev pub invariant-loop-j : goal.invariant-loop-j
invariant-loop-j l = (l.j ≤ l.n) × (l.n ≡ length (branches_at l.s l.i.0)) × (length l.lengths ≡ length l.initial.lengths) × (all_given (take l.j (branches_at l.s l.i.0)) ≡ some (take l.j l.lengths))
