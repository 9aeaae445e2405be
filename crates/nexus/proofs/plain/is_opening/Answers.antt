-- `nexus::plain::is_opening` meets its contract. Assumes nothing.
use mathlib.Core.Path.{sym}
use Rattle.nexus.specs.KeptLaws.{opening-bracket, opening-comma}
use Rattle.nexus.proofs.plain.is_opening.Goals as goal

pub returns-then-b-eq40 : goal.returns-then-b-eq40
returns-then-b-eq40 c = sym (opening-bracket _ c.if-b-eq40.true)

pub returns : goal.returns
returns c = sym (opening-comma _ c.if-b-eq40.false)
