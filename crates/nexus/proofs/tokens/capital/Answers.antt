-- `nexus::tokens::capital` meets its contract. Assumes nothing.
use borrow.Author.Tests.{le-leb, lt-leb}
use Rattle.trees.specs.Nexus.{capital}
use Rattle.nexus.proofs.tokens.capital.Goals as goal

pub returns-then-b-lt97 : goal.returns-then-b-lt97
unfolding capital
returns-then-b-lt97 c = simp (lt-leb 97 _ c.if-b-lt97.true)

pub returns-then-b-gt122 : goal.returns-then-b-gt122
unfolding capital
returns-then-b-gt122 c = simp (le-leb 97 _ c.if-b-lt97.false, lt-leb _ 122 c.if-b-gt122.true)

pub returns : goal.returns
unfolding capital
returns c = simp (le-leb 97 _ c.if-b-lt97.false, le-leb _ 122 c.if-b-gt122.false)
