-- `nexus::keys::find_key` meets its contract. The loop's invariant: the keys from the entry on decide. Assumes nothing.
use Prim.Native.Nat.{◌≤◌}
use Rattle.trees.specs.NexusCall.{keys_of}
use Rattle.head.specs.Index.{Sought, left}
use Rattle.nexus.specs.Places.{part}
use Rattle.nexus.specs.Commands.{pairs_in}
use Rattle.nexus.proofs.keys.find_key.Given as goal

abbrev pub invariant-loop-number : goal.invariant-loop-number
invariant-loop-number l = (l.number ≤ l.n) × Sought (keys_of (pairs_in l.list l.n l.places)) (part l.b l.e l.text) l.number

abbrev pub decreases-loop-number : goal.decreases-loop-number
decreases-loop-number l = left l.number
