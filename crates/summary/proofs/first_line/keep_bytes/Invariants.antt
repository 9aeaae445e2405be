-- `summary::first_line::keep_bytes` meets its contract. The loop's invariant: the rest of the piece decides what is kept. Assumes nothing.
use Prim.Native.Nat.{◌≤◌}
use mathlib.Core.Path.{◌≡◌}
use lib.ListN.{length, drop}
use Rattle.summary.specs.FirstLine.{kept_after}
use Rattle.summary.proofs.first_line.keep_bytes.Given as goal

abbrev pub invariant-loop-b : goal.invariant-loop-b
invariant-loop-b l =
    (l.b-index ≤ length l.piece)
    × (length l.out ≡ length l.initial.out)
    × (kept_after (record { used = l.used; spaces = l.spaces; quoted = l.quoted; bytes = l.out }) (drop l.b-index l.piece)
    ≡ kept_after (record { used = l.initial.used; spaces = l.initial.spaces; quoted = l.initial.quoted; bytes = l.initial.out }) l.piece)
