-- `text::is_blank` meets its contract. Assumes nothing.
use borrow.Author.Rules.{rules}
use borrow.Author.Tests.{le-leb, lt-leb}
use Rattle.text.proofs.ByteLaws.{blank-tests}
use Rattle.text.proofs.is_blank.Goals as goal

pub returns-then-b-le32 : goal.returns-then-b-le32
returns-then-b-le32 c = let whole = blank-tests _ _ (search rules) (simp (le-leb _ 32 c.if-b-le32.true)) in record { value = whole.0; value_2 = whole.1 }

pub returns : goal.returns
returns c = let whole = blank-tests _ _ (search rules) (simp (lt-leb _ 32 c.if-b-le32.false)) in record { value = whole.0; value_2 = whole.1 }
