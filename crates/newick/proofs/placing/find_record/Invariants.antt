-- `newick::placing::find_record` meets its contract. The loop's invariant: the mask stands from `low` up to `high`. Assumes nothing.
use Rattle.std.proofs.Common.{◌-◌}
use Rattle.newick.proofs.PlacedLaws.{Searching}
use Rattle.newick.proofs.placing.find_record.Given as goal

abbrev pub invariant-loop-low : goal.invariant-loop-low
invariant-loop-low l = Searching l.records l.k l.m l.low l.high

abbrev pub decreases-loop-low : goal.decreases-loop-low
decreases-loop-low l = l.high - l.low
