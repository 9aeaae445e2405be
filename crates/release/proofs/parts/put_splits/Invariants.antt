-- `release::parts::put_splits` meets its contract. The loop's invariant: the lines of the splits from k on are left. Assumes nothing.
use Prim.Native.Nat.{◌+◌, ◌-◌, ◌*◌, ◌≤◌}
use mathlib.Core.Path.{◌≡◌}
use mathlib.Core.List.{map}
use lib.ListN.{drop}
use Rattle.trees.specs.Consensus.{recorded}
use Rattle.layout.specs.Store.{splits_held_at, held_at}
use Rattle.putting.specs.Put.{Putting}
use Rattle.putting.specs.Lines.{bytes_of}
use Rattle.sheet.specs.Sheet.{split_line}
use Rattle.release.proofs.parts.put_splits.Given as goal

abbrev pub invariant-loop-k : goal.invariant-loop-k
invariant-loop-k l =
    (l.k ≤ l.n)
    × (l.n ≡ splits_held_at l.s)
    × (l.e ≤ l.at + 42 * l.k)
    × Putting l.initial.out l.at (bytes_of (map (split_line (held_at l.s)) (recorded (held_at l.s).trees))) l.out l.e (bytes_of (map (split_line (held_at l.s)) (drop l.k (recorded (held_at l.s).trees))))
