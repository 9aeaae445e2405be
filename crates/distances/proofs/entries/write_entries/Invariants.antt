-- `distances::entries::write_entries` meets its contract. The loop's invariant: the entries of the trees below i are written, and no row
-- is marked. Assumes nothing.
use Rattle.std.proofs.Common.{◌≡◌, ◌*◌, length, drop}
use Rattle.layout.specs.Store.{trees_held_at}
use Rattle.distances.specs.Marks.{no_marks}
use Rattle.distances.specs.Entries.{Filled}
use Rattle.distances.proofs.entries.write_entries.Given as goal

abbrev pub invariant-loop-i : goal.invariant-loop-i
invariant-loop-i l =
    (l.marks ≡ no_marks) × Filled l.s l.i l.i l.out × (length l.out ≡ length l.initial.out)
    × (drop (trees_held_at l.s * trees_held_at l.s) l.out ≡ drop (trees_held_at l.s * trees_held_at l.s) l.initial.out)
