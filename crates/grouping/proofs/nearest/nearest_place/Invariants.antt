-- `grouping::nearest::nearest_place` meets its contract. The loop's invariant: the masks from k on decide. Assumes nothing.
use Prim.Native.Nat.{◌+◌, ◌≤◌}
use mathlib.Core.Path.{◌≡◌}
use lib.ListN.{length, drop}
use Rattle.grouping.specs.Nearest.{place_of}
use Rattle.grouping.proofs.nearest.nearest_place.Given as goal

abbrev pub invariant-loop-k : goal.invariant-loop-k
invariant-loop-k l = (l.k ≤ length l.list) × (place_of l.i.0 l.j.0 l.list ≡ l.k + place_of l.i.0 l.j.0 (drop l.k l.list))
