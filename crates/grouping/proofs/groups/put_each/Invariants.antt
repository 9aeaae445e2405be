-- `grouping::groups::put_each` meets its contract. The loop's invariant: the lines of the masks from k on are left. Assumes nothing.
use Prim.Native.Nat.{◌+◌, ◌*◌, ◌≤◌}
use mathlib.Core.List.{map}
use lib.ListN.{length, drop}
use Rattle.layout.specs.Store.{held_at}
use Rattle.putting.specs.Put.{Putting}
use Rattle.putting.specs.Lines.{bytes_of}
use Rattle.grouping.specs.GroupLines.{group_line}
use Rattle.grouping.proofs.groups.put_each.Given as goal

abbrev pub invariant-loop-k : goal.invariant-loop-k
invariant-loop-k l = (l.k ≤ length l.list) × (l.e ≤ l.at + 4300 * l.k) × Putting l.initial.out l.at (bytes_of (map (group_line (held_at l.s)) l.list)) l.out l.e (bytes_of (map (group_line (held_at l.s)) (drop l.k l.list)))
