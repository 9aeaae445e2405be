-- `nexus::pairs::read_pairs` meets its contract. The loop's invariant: n pairs were read up to `at`, their places were put, and the rest is read from there on. Assumes nothing.
use mathlib.Core.Path.{◌≡◌}
use lib.ListN.{length}
use Rattle.nexus.specs.ReadPairsLaws.{ReadTo}
use Rattle.nexus.proofs.pairs.read_pairs.Given as goal

abbrev pub invariant-loop-n : goal.invariant-loop-n
invariant-loop-n l = ReadTo l.c l.from l.at l.n l.places × (length l.places ≡ length l.initial.places)
