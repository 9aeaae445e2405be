-- `splitfile::choosing::least_count` meets its contract. Assumes nothing.
use Rattle.splitfile.specs.Choosing.{least_for}
use Rattle.splitfile.proofs.choosing.least_count.Goals as goal

pub returns-in-Strict : goal.returns-in-Strict
unfolding least_for
returns-in-Strict c = rw c.in-Strict.is

pub returns-in-Majority : goal.returns-in-Majority
unfolding least_for
returns-in-Majority c = rw c.in-Majority.is
