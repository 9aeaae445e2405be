-- `distances::entries::write_pairs` meets its contract. The loop's invariant: the entries of tree i with the trees below j are written.
-- Assumes nothing.
use Rattle.std.proofs.Common.{◌≡◌, ◌*◌, ◌≤◌, length, drop}
use Rattle.layout.specs.Store.{trees_held_at}
use Rattle.distances.specs.Entries.{Filled}
use Rattle.distances.proofs.entries.write_pairs.Given as goal

abbrev pub invariant-loop-j : goal.invariant-loop-j
invariant-loop-j l =
    (l.i ≤ l.j) × (l.trees ≡ trees_held_at l.s) × Filled l.s l.i l.j l.out × (length l.out ≡ length l.initial.out)
    × (drop (trees_held_at l.s * trees_held_at l.s) l.out ≡ drop (trees_held_at l.s * trees_held_at l.s) l.initial.out)
