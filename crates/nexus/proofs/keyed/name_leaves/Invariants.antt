-- `nexus::keyed::name_leaves` meets its contract. The loop's invariant: the names of the first j leaves are noted. Assumes nothing.
use Prim.Native.Nat.{◌≤◌}
use mathlib.Core.Path.{◌≡◌}
use lib.ListN.{length}
use Rattle.nexus.specs.Commands.{pairs_in}
use Rattle.nexus.specs.NamingLaws.{Naming}
use Rattle.nexus.proofs.keyed.name_leaves.Given as goal

abbrev pub invariant-loop-j : goal.invariant-loop-j
invariant-loop-j l = Naming (pairs_in l.list l.n l.places) l.list l.text l.tokens l.j l.bytes l.names × (l.j ≤ l.k) × (length l.names ≡ length l.initial.names)
