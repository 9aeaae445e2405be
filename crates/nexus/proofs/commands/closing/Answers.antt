-- `nexus::commands::closing` meets its contract, by its one test. Assumes nothing.
use borrow.Author.Tests.{eq-eqb, ne_eqb}
use Rattle.nexus.proofs.commands.closing.Goals as goal

pub returns-then-b-eq91 : goal.returns-then-b-eq91
returns-then-b-eq91 c = simp (eq-eqb _ _ c.if-b-eq91.true)

pub returns : goal.returns
returns c = simp (ne_eqb _ _ c.if-b-eq91.false)
