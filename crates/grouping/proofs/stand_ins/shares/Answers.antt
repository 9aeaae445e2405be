-- `grouping::stand_ins::shares` meets its contract. Assumes nothing.
use Rattle.grouping.specs.StandInLineLaws.{same_not, other-shares}
use Rattle.grouping.proofs.stand_ins.shares.Goals as goal

pub returns-then-j-i : goal.returns-then-j-i
returns-then-j-i c = let a = c.args in same_not a.n a.i.0 a.list.now a.k a.j.0 c.if-j-i.true

pub returns : goal.returns
returns c = let a = c.args in other-shares a.n a.i.0 a.list.now a.k a.j.0 c.if-j-i.false c.group_size.ensures
