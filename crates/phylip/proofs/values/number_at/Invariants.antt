-- `phylip::values::number_at` meets its contract. The loop's invariant: the number is `value`, with the digits from here on behind it. Assumes nothing.
use Prim.Native.Nat.{◌≤◌}
use mathlib.Core.Path.{◌≡◌}
use Rattle.trees.specs.Length.{is_digit}
use Rattle.trees.specs.Nexus.{behind_run}
use Rattle.phylip.specs.Walk.{rest, number}
use Rattle.phylip.specs.PlaceLaws.{number_behind}
use Rattle.phylip.proofs.values.number_at.Given as goal

abbrev pub invariant-loop-at : goal.invariant-loop-at
invariant-loop-at l =
    (l.value ≤ 65536)
    × (number (rest l.f l.i) ≡ number_behind l.value (rest l.f l.at))
    × (behind_run is_digit (rest l.f l.i) ≡ behind_run is_digit (rest l.f l.at))
