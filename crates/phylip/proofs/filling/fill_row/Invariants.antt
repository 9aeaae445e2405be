-- `phylip::filling::fill_row` meets its contract. The loop's invariant: what is left to write decides. Assumes nothing.
use Prim.Native.Nat.{◌+◌, ◌-◌, ◌≤◌}
use mathlib.Core.Path.{◌≡◌}
use mathlib.Core.Bool.{true}
use lib.ListN.{length}
use Rattle.phylip.specs.Walk.{rest, nexts, are_values}
use Rattle.phylip.specs.Filling.{values_filled}
use Rattle.phylip.proofs.filling.fill_row.Given as goal

abbrev pub invariant-loop-j : goal.invariant-loop-j
invariant-loop-j l =
    let left = l.k + l.n - l.j in
    (length l.out ≡ length l.initial.out)
    × (l.j ≤ l.k + l.n)
    × (are_values left (rest l.f l.at) ≡ true)
    × (nexts l.n (rest l.f l.i) ≡ nexts left (rest l.f l.at))
    × (values_filled l.initial.out l.k l.n (rest l.f l.i) ≡ values_filled l.out l.j left (rest l.f l.at))
