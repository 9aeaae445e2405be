-- `newick::placing::place_lengths` meets its contract. The loop's invariant: the lengths of the first j nodes are placed. Assumes nothing.
use Rattle.std.proofs.Common.{◌≡◌, ◌≤◌, ◌++◌, length, drop}
use Rattle.records.specs.Records.{masks_of}
use Rattle.newick.specs.Placing.{placed_words}
use Rattle.newick.proofs.placing.place_lengths.Given as goal

abbrev pub invariant-loop-j : goal.invariant-loop-j
invariant-loop-j l = (l.j ≤ l.n) × (length l.out ≡ length l.initial.out) × (l.out ≡ placed_words l.taxa l.sums l.nodes l.words (masks_of l.k l.records) l.j ++ drop l.k l.initial.out)
