-- `text::sign_or_point` meets its contract. Assumes nothing.
use native.Mathlib.Omega.{arith}
use mathlib.Core.Path.{sym, ap}
use borrow.Author.Rules.{rules}
use borrow.Author.Tests.{lt-ltb, ne_eqb}
use Rattle.text.specs.Automaton.{byte_class}
use Rattle.text.proofs.ByteLaws.{class-tests}
use Rattle.text.proofs.sign_or_point.Goals as goal

pub returns-then-b-eq46 : goal.returns-then-b-eq46
unfolding byte_class
returns-then-b-eq46 c = (sym (ap byte_class c.if-b-eq46.true), omega arith)

pub returns-then-b-eq43 : goal.returns-then-b-eq43
unfolding byte_class
returns-then-b-eq43 c = (sym (ap byte_class c.if-b-eq43.true), omega arith)

pub returns-then-b-eq45 : goal.returns-then-b-eq45
unfolding byte_class
returns-then-b-eq45 c = (sym (ap byte_class c.if-b-eq45.true), omega arith)

pub returns : goal.returns
returns c = (class-tests _ _ (search rules) (simp (lt-ltb c.args.b 48 (search rules), ne_eqb _ 46 c.if-b-eq46.false, ne_eqb _ 43 c.if-b-eq43.false, ne_eqb _ 45 c.if-b-eq45.false)), omega arith)
