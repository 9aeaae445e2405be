-- `grouping::stand_ins::put_all` meets its contract. The loop's invariant: the lines of those whose group has at most n - less taxa are left.
-- Assumes nothing.
use Prim.Native.Nat.{◌+◌, ◌-◌, ◌*◌, ◌≤◌}
use mathlib.Core.List.{map}
use lib.ListN.{length}
use Rattle.trees.specs.Groups.{sharing_from, stand_ins}
use Rattle.head.specs.Head.{numbers_at}
use Rattle.layout.specs.Store.{held_at}
use Rattle.putting.specs.Put.{Putting}
use Rattle.putting.specs.Lines.{bytes_of}
use Rattle.grouping.specs.GroupLines.{stand_in_line, stand_in_lines}
use Rattle.grouping.proofs.stand_ins.put_all.Given as goal

abbrev pub invariant-loop-less : goal.invariant-loop-less
invariant-loop-less l =
    let t = (numbers_at l.s).taxa in
    (l.e + 4370 * length (sharing_from t l.i.0 l.list (l.n - l.less)) ≤ l.at + 4370 * length (stand_ins t l.i.0 l.list))
    × Putting l.initial.out l.at (bytes_of (stand_in_lines (held_at l.s) l.i.0)) l.out l.e (bytes_of (map (stand_in_line (held_at l.s) l.i.0) (sharing_from t l.i.0 l.list (l.n - l.less))))
