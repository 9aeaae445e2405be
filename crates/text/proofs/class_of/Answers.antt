-- `text::class_of` meets its contract. Assumes nothing.
use native.Mathlib.Omega.{arith}
use mathlib.Core.Path.{sym, ap}
use borrow.Author.Rules.{rules}
use borrow.Author.Tests.{lt-ltb, le-ltb, ne_eqb}
use Rattle.text.specs.Automaton.{byte_class}
use Rattle.text.proofs.ByteLaws.{class-tests}
use Rattle.text.proofs.class_of.Goals as goal

pub returns-then-b-lt58 : goal.returns-then-b-lt58
returns-then-b-lt58 c = (class-tests _ _ (search rules) (simp (le-ltb _ 48 c.if-b-lt48.false, lt-ltb _ 58 c.if-b-lt58.true)), omega arith)

pub returns-then-b-eq69 : goal.returns-then-b-eq69
unfolding byte_class
returns-then-b-eq69 c = (sym (ap byte_class c.if-b-eq69.true), omega arith)

pub returns-then-b-eq101 : goal.returns-then-b-eq101
unfolding byte_class
returns-then-b-eq101 c = (sym (ap byte_class c.if-b-eq101.true), omega arith)

pub returns : goal.returns
returns c = (class-tests _ _ (search rules) (simp (le-ltb _ 48 c.if-b-lt48.false, le-ltb _ 58 c.if-b-lt58.false, ne_eqb _ 69 c.if-b-eq69.false, ne_eqb _ 101 c.if-b-eq101.false)), omega arith)
