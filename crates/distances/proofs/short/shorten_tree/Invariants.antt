-- `distances::short::shorten_tree` meets its contract. The loop's invariant: the rows from j on are left. Assumes nothing.
use Rattle.std.proofs.Common.{◌≡◌, ◌*◌, ◌≤◌, length}
use Rattle.layout.specs.Store.{trees_held_at, list_at}
use Rattle.distances.specs.ShortLaws.{Left}
use Rattle.distances.proofs.short.shorten_tree.Given as goal

abbrev pub invariant-loop-j : goal.invariant-loop-j
invariant-loop-j l = (l.j ≤ l.n) × (l.n ≡ length (list_at l.s l.i)) × (l.trees ≡ trees_held_at l.s) × (length l.short ≡ 65536) × Left l.s l.i l.initial.short l.short l.at l.j × (l.first ≡ 64 * l.i)
