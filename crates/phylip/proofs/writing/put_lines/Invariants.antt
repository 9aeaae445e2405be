-- `phylip::writing::put_lines` meets its contract. The loop's invariant: the lines from tree i on are left. Assumes nothing.
use Prim.Native.Nat.{◌≤◌}
use mathlib.Core.Path.{◌≡◌}
use lib.ListN.{drop}
use Rattle.trees.specs.Phylip.{row_texts}
use Rattle.layout.specs.Store.{trees_held_at, held_at}
use Rattle.putting.specs.Put.{Putting}
use Rattle.phylip.specs.Writing.{distance_rows, Kept}
use Rattle.phylip.proofs.writing.put_lines.Given as goal

abbrev pub invariant-loop-i : goal.invariant-loop-i
invariant-loop-i l =
    (l.i ≤ l.trees) × (l.trees ≡ trees_held_at l.s) × Kept l.s l.i l.rows × (l.e ≤ 8000000)
    × Putting l.initial.out l.at (row_texts 0 (distance_rows (held_at l.s).trees)) l.out l.e (row_texts l.i (drop l.i (distance_rows (held_at l.s).trees)))
