-- `writer::widest_in` meets its contract. The loop's invariant: the masks from j on, sought behind best, give the widest. Assumes nothing.
use Prim.Native.Nat.{◌≤◌}
use mathlib.Core.Path.{◌≡◌}
use lib.ListN.{take}
use lib.Seq.{slice}
use Rattle.trees.specs.Written.{widest_or, widest}
use Rattle.writer.proofs.widest_in.Given as goal

abbrev pub invariant-loop-j : goal.invariant-loop-j
invariant-loop-j l = (l.j ≤ l.k) × (widest l.m l.i.0 (take l.k l.list) ≡ widest_or l.best l.m l.i.0 (slice l.j l.k l.list))
