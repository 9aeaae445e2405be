-- `splitfile::choosing::agrees_with` meets its contract. The loop's invariant: the masks from j on decide. Assumes nothing.
use Rattle.std.proofs.Common.{◌≡◌, ◌≤◌, take, drop}
use Rattle.trees.specs.Plain.{every}
use Rattle.trees.specs.Mask.{agree}
use Rattle.splitfile.proofs.choosing.agrees_with.Given as goal

abbrev pub invariant-loop-j : goal.invariant-loop-j
invariant-loop-j l = (l.j ≤ l.k) × (every (agree l.m) (take l.k l.list) ≡ every (agree l.m) (drop l.j (take l.k l.list)))
