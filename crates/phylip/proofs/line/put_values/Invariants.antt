-- `phylip::line::put_values` meets its contract. The loop's invariant: the values from j on are left. Assumes nothing.
use Prim.Native.Nat.{◌+◌, ◌≤◌}
use lib.ListN.{length, drop}
use Rattle.putting.specs.Put.{Putting}
use Rattle.phylip.specs.Writing.{values_text}
use Rattle.phylip.proofs.line.put_values.Given as goal

abbrev pub invariant-loop-j : goal.invariant-loop-j
invariant-loop-j l = (l.j ≤ length l.row) × (l.e ≤ l.at + 4096) × Putting l.initial.out l.at (values_text l.row) l.out l.e (values_text (drop l.j l.row))
