-- `grouping::labels::put_group` meets its contract. Assumes nothing.
use native.Mathlib.Omega.{arith}
use Rattle.grouping.specs.LabelLaws.{group-put}
use Rattle.grouping.proofs.labels.put_group.Goals as goal

pub returns : goal.returns
returns c =
    let e = c.put_end.ensures in
    let w = rw c.from.ensures at c.put_counted-b.ensures in
    record { put = group-put _ _ w.put c.put_labels-e.ensures.put e; upper_bound = omega (arith, w.upper_bound.1 c.requires.count_bound, c.put_labels-e.ensures.upper_bound, e.ends) }
