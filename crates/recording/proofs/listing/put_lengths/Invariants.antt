-- `listing::put_lengths` meets its contract. The loop's invariant: the first j words are put. Assumes nothing.
use Prim.Native.Nat.{◌≤◌}
use Rattle.recording.specs.LengthLaws.{Putting}
use Rattle.recording.proofs.PuttingLaws.{Given}
use Rattle.recording.proofs.listing.put_lengths.Given as goal

abbrev pub invariant-loop-j : goal.invariant-loop-j
invariant-loop-j l = Given l.initial.s l.words l.n l.from × (l.j ≤ l.n) × Putting l.initial.s l.words l.j l.s
