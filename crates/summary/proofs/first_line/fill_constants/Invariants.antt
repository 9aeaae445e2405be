-- `summary::first_line::fill_constants` meets its contract. The loop's invariant: the first i constants of both kinds are there. Assumes nothing.
use mathlib.Core.Path.{◌≡◌}
use mathlib.Core.List.{◌++◌}
use lib.ListN.{length, take, drop}
use Rattle.head.specs.Head.{up_to}
use Rattle.summary.specs.Summary.{first_constant, second_constant}
use Rattle.summary.proofs.first_line.fill_constants.Given as goal

abbrev pub invariant-loop-i : goal.invariant-loop-i
invariant-loop-i l =
    (length l.first ≡ 64)
    × (length l.second ≡ 64)
    × (l.first ≡ take l.i (up_to first_constant (length l.initial.first)) ++ drop l.i l.initial.first)
    × (l.second ≡ take l.i (up_to second_constant (length l.initial.second)) ++ drop l.i l.initial.second)
