-- `nexus::keys::repeats` meets its contract. The loop's invariant: the keys from pair i on decide. Assumes nothing.
use mathlib.Core.Path.{◌≡◌}
use lib.ListN.{drop}
use Rattle.trees.specs.Names.{different}
use Rattle.trees.specs.NexusCall.{keys_of}
use Rattle.nexus.specs.Commands.{pairs_in}
use Rattle.nexus.proofs.keys.repeats.Given as goal

abbrev pub invariant-loop-i : goal.invariant-loop-i
invariant-loop-i l = different (keys_of (pairs_in l.list l.n l.places)) ≡ different (drop l.i (keys_of (pairs_in l.list l.n l.places)))
