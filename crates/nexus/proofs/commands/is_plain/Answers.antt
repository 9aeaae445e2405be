-- `nexus::commands::is_plain` meets its contract, by its two tests and its result. Assumes nothing.
use borrow.Author.Tests.{eq-eqb, ne_eqb}
use Rattle.nexus.proofs.commands.is_plain.Goals as goal

pub returns-then-b-eq59 : goal.returns-then-b-eq59
returns-then-b-eq59 c = simp (eq-eqb _ _ c.if-b-eq59.true)

pub returns-then-b-eq91 : goal.returns-then-b-eq91
returns-then-b-eq91 c = simp (ne_eqb _ _ c.if-b-eq59.false, eq-eqb _ _ c.if-b-eq91.true)

pub returns : goal.returns
returns c = simp (ne_eqb _ _ c.if-b-eq59.false, ne_eqb _ _ c.if-b-eq91.false)
