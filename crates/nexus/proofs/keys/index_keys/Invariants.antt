-- `nexus::keys::index_keys` meets its contract. The loop's invariant: the pairs from i on are indexed. Assumes nothing.
use Prim.Native.Nat.{◌≤◌}
use mathlib.Core.Path.{◌≡◌}
use lib.ListN.{length}
use Rattle.trees.specs.NexusCall.{keys_of}
use Rattle.head.specs.Index.{keys, IndexedFrom}
use Rattle.nexus.specs.Commands.{pairs_in}
use Rattle.nexus.proofs.keys.index_keys.Given as goal

abbrev pub invariant-loop-i : goal.invariant-loop-i
invariant-loop-i l = (l.i ≤ l.n) × (length l.starts ≡ keys) × (length l.links ≡ 64) × IndexedFrom (keys_of (pairs_in l.list l.n l.places)) l.i l.starts l.links
