-- `phylip::form::are_rows` meets its contract. The loop's invariant: the first k rows stand, and those from here on decide. Assumes nothing.
use Prim.Native.Nat.{◌-◌, ◌≤◌}
use mathlib.Core.Path.{◌≡◌}
use lib.ListN.{length}
use Rattle.phylip.specs.Walk.{rest, next_rows, are_rows}
use Rattle.phylip.specs.Rows.{Stands}
use Rattle.phylip.proofs.form.are_rows.Given as goal

abbrev pub invariant-loop-k : goal.invariant-loop-k
invariant-loop-k l =
    (l.k ≤ l.t)
    × (length l.at ≡ length l.initial.at)
    × (are_rows l.t l.t (rest l.f l.i) ≡ are_rows (l.t - l.k) l.t (rest l.f l.p))
    × (rest l.f l.p ≡ next_rows l.k l.t (rest l.f l.i))
    × Stands l.f (rest l.f l.i) l.t l.k l.at
