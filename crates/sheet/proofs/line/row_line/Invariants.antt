-- `sheet::line::row_line` meets its contract. The loop's invariant: the distances from the trees below j are written, behind the first. Assumes nothing.
use Prim.Native.Nat.{◌*◌, ◌-◌, ◌≤◌}
use mathlib.Core.Path.{◌≡◌}
use lib.ListN.{length}
use Rattle.layout.specs.Store.{trees_held_at}
use Rattle.putting.specs.Put.{Put}
use Rattle.sheet.specs.LineLaws.{cell, rest}
use Rattle.sheet.proofs.line.row_line.Given as goal

abbrev pub invariant-loop-j : goal.invariant-loop-j
invariant-loop-j l = (length l.out ≡ length l.initial.out) × (1 ≤ l.j) × (l.j ≤ l.trees) × (l.trees ≡ trees_held_at l.s) × (l.trees ≤ 1024) × (l.at ≤ 6 * l.j) × Put l.initial.out l.initial.at (rest (cell l.row) l.j) l.out l.at
