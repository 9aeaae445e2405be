-- `grouping::stand_ins::put_sharing` meets its contract. The loop's invariant: the lines of those below j are put. Assumes nothing.
use Prim.Native.Nat.{◌+◌, ◌*◌, ◌≤◌}
use mathlib.Core.List.{map}
use lib.ListN.{length}
use Rattle.trees.specs.Plain.{keep}
use Rattle.trees.specs.Groups.{up_to}
use Rattle.head.specs.Head.{numbers_at}
use Rattle.layout.specs.Store.{held_at}
use Rattle.putting.specs.Put.{Put}
use Rattle.putting.specs.Lines.{bytes_of}
use Rattle.grouping.specs.GroupLines.{stand_in_line}
use Rattle.grouping.specs.StandInLineLaws.{sharer}
use Rattle.grouping.proofs.stand_ins.put_sharing.Given as goal

abbrev pub invariant-loop-j : goal.invariant-loop-j
invariant-loop-j l =
    let those = keep (sharer (numbers_at l.s).taxa l.i.0 l.list l.k) (up_to l.j) in
    (l.j ≤ l.n) × (l.e ≤ l.at + 4370 * length those) × Put l.initial.out l.at (bytes_of (map (stand_in_line (held_at l.s) l.i.0) those)) l.out l.e
