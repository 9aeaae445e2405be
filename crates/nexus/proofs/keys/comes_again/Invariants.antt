-- `nexus::keys::comes_again` meets its contract. The loop's invariant: the keys from pair j on decide. Assumes nothing.
use Prim.Native.Nat.{◌+◌}
use mathlib.Core.Path.{◌≡◌}
use lib.ListN.{drop}
use Rattle.trees.specs.Plain.{in_names}
use Rattle.trees.specs.NexusCall.{keys_of}
use Rattle.nexus.specs.Commands.{pairs_in}
use Rattle.nexus.specs.Keys.{key_in}
use Rattle.nexus.proofs.keys.comes_again.Given as goal

abbrev pub invariant-loop-j : goal.invariant-loop-j
invariant-loop-j l =
    in_names (key_in l.list l.places l.i) (drop (l.i + 1) (keys_of (pairs_in l.list l.n l.places)))
    ≡ in_names (key_in l.list l.places l.i) (drop l.j (keys_of (pairs_in l.list l.n l.places)))
