-- `text::move_of` meets its contract. Assumes nothing.
use native.Mathlib.Omega.{arith}
use mathlib.Core.Path.{refl}
use borrow.Author.Rules.{rules}
use Rattle.text.specs.Automaton.{move}
use Rattle.text.proofs.ByteLaws.{row-moves, other-moves}
use Rattle.text.proofs.move_of.Goals as goal

pub returns-then-k-eq0 : goal.returns-then-k-eq0
unfolding move
returns-then-k-eq0 c = row-moves _ 0 refl _ _ (search rules) c.if-k-eq0.true

pub returns-then-k-eq1 : goal.returns-then-k-eq1
unfolding move
returns-then-k-eq1 c = row-moves _ 1 refl _ _ (search rules) c.if-k-eq1.true

pub returns-then-k-eq2 : goal.returns-then-k-eq2
unfolding move
returns-then-k-eq2 c = row-moves _ 2 refl _ _ (search rules) c.if-k-eq2.true

pub returns-then-k-eq3 : goal.returns-then-k-eq3
unfolding move
returns-then-k-eq3 c = row-moves _ 3 refl _ _ (search rules) c.if-k-eq3.true

pub returns : goal.returns
returns c = (other-moves _ _ (search rules) (search rules), omega arith)
