-- `splitfile::form::are_rising` meets its contract. The loop's invariant: the records from i on decide. Assumes nothing.
use Rattle.std.proofs.Common.{◌≡◌, ◌≤◌, drop}
use Rattle.trees.specs.SplitFile.{records_in}
use Rattle.splitfile.specs.Form.{rising_from}
use Rattle.splitfile.proofs.form.are_rising.Given as goal

abbrev pub invariant-loop-i : goal.invariant-loop-i
invariant-loop-i l = (l.i ≤ l.n) × (rising_from l.trees 0 0 (records_in l.n l.file) ≡ rising_from l.trees l.seen l.before (drop l.i (records_in l.n l.file)))
