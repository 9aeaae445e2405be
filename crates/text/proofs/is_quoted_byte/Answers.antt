-- `text::is_quoted_byte` meets its contract. Assumes nothing.
use borrow.Author.Rules.{rules}
use borrow.Author.Tests.{lt-ltb, le-ltb}
use Rattle.text.proofs.ByteLaws.{quoted-tests}
use Rattle.text.proofs.is_quoted_byte.Goals as goal

pub returns-then-b-lt32 : goal.returns-then-b-lt32
returns-then-b-lt32 c = quoted-tests _ _ (search rules) (simp (lt-ltb _ 32 c.if-b-lt32.true))

pub returns : goal.returns
returns c = quoted-tests _ _ (search rules) (simp (le-ltb _ 32 c.if-b-lt32.false))
