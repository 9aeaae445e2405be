-- `nexus::plain::is_mark` meets its contract. Assumes nothing.
use mathlib.Core.Path.{sym}
use Rattle.nexus.specs.KeptLaws.{mark-closing, mark-other}
use Rattle.nexus.proofs.plain.is_mark.Goals as goal

pub returns-then-b-eq41 : goal.returns-then-b-eq41
returns-then-b-eq41 c = sym (mark-closing _ c.if-b-eq41.true)

pub returns : goal.returns
returns c = sym (mark-other _ c.if-b-eq41.false)
