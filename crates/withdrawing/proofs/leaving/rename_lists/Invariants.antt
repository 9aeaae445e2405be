-- `leaving::rename_lists` meets its contract. The loop's invariant: the rows in the first i lists are named anew. Assumes nothing.
use Prim.Native.Nat.{◌+◌, ◌*◌}
use Rattle.trees.specs.Opening.{tree_bytes}
use Rattle.withdrawing.proofs.RenameListsLaws.{Given, State}
use Rattle.withdrawing.proofs.leaving.rename_lists.Given as goal

abbrev pub invariant-loop-i : goal.invariant-loop-i
invariant-loop-i l = Given l.initial.s l.entries l.trees × State l.initial.s l.entries l.trees l.s (l.first + tree_bytes * l.i) l.i
