-- `phylip::filling::fill_rows` meets its contract. The loop's invariant: what is left to write decides. Assumes nothing.
use Prim.Native.Nat.{◌+◌, ◌-◌, ◌*◌, ◌≤◌}
use mathlib.Core.Path.{◌≡◌}
use mathlib.Core.Bool.{true}
use lib.ListN.{length}
use Rattle.phylip.specs.Walk.{rest, are_rows}
use Rattle.phylip.specs.Filling.{rows_filled}
use Rattle.phylip.proofs.filling.fill_rows.Given as goal

abbrev pub invariant-loop-row : goal.invariant-loop-row
invariant-loop-row l =
    (length l.out ≡ length l.initial.out)
    × (l.t * l.row + (l.t - l.row) * l.t ≤ length l.initial.out)
    × (are_rows (l.t - l.row) l.t (rest l.f l.p) ≡ true)
    × (rows_filled l.initial.out 0 l.t l.t (rest l.f l.i) ≡ rows_filled l.out (l.t * l.row) (l.t - l.row) l.t (rest l.f l.p))
