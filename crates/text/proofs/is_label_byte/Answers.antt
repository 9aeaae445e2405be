-- `text::is_label_byte` meets its contract. Assumes nothing.
use borrow.Author.Rules.{rules}
use borrow.Author.Tests.{lt-ltb, le-ltb}
use Rattle.text.proofs.ByteLaws.{label-tests}
use Rattle.text.proofs.is_label_byte.Goals as goal

pub returns-then-b-lt64 : goal.returns-then-b-lt64
returns-then-b-lt64 c = label-tests _ _ (search rules) (simp (lt-ltb _ 64 c.if-b-lt64.true))

pub returns-then-b-lt128 : goal.returns-then-b-lt128
returns-then-b-lt128 c = label-tests _ _ (search rules) (simp (le-ltb _ 64 c.if-b-lt64.false, lt-ltb _ 128 c.if-b-lt128.true))

pub returns : goal.returns
returns c = label-tests _ _ (search rules) (simp (le-ltb _ 64 c.if-b-lt64.false, le-ltb _ 128 c.if-b-lt128.false))
