-- `newick::noting::note_last` meets its contract. Assumes nothing.
use Rattle.std.proofs.Common.{◌-◌, set}
use Rattle.newick.proofs.NotingLaws.{last-not, last_inner}
use Rattle.newick.proofs.noting.note_last.Goals as goal

pub returns-then-not-inner : goal.returns-then-not-inner
returns-then-not-inner c = let a = c.args in last-not a.inner a.words.now (set a.words.now (a.n - 1) a.x) c.if-not-inner.true-raw

pub overflow_sub-n : goal.overflow_sub-n
overflow_sub-n c = c.requires c.if-not-inner.false

pub returns : goal.returns
returns c = let a = c.args in last_inner a.inner a.words.now (set a.words.now (a.n - 1) a.x) _ c.if-not-inner.false-raw c.put.ensures
