-- `newick::noting::is_stop` meets its contract. Assumes nothing.
use Rattle.std.proofs.Common.{sym}
use Rattle.newick.proofs.NotingLaws.{stop-colon, stop-closing, stop-comma, stop-else}
use Rattle.newick.proofs.noting.is_stop.Goals as goal

pub returns-then-b-eq58 : goal.returns-then-b-eq58
returns-then-b-eq58 c = sym (stop-colon _ c.if-b-eq58.true)

pub returns-then-b-eq41 : goal.returns-then-b-eq41
returns-then-b-eq41 c = sym (stop-closing _ c.if-b-eq41.true)

pub returns-then-b-eq44 : goal.returns-then-b-eq44
returns-then-b-eq44 c = sym (stop-comma _ c.if-b-eq44.true)

pub returns : goal.returns
returns c = sym (stop-else _ c.if-b-eq58.false c.if-b-eq41.false c.if-b-eq44.false)
