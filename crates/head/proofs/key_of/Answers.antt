-- `head::key_of` meets its contract: the key is made of three words. Assumes nothing.
use Rattle.std.proofs.Common.{◌∙◌, arith}
use Rattle.head.specs.WordLaws.{key-short, key-long}
use Rattle.head.proofs.key_of.Goals as goal

pub returns-then-n-le8 : goal.returns-then-n-le8
returns-then-n-le8 c =
    let a = c.args in
    (c.fold.ensures.0 ∙ rw c.first_word-first.ensures (key-short a.s.now a.b a.e (omega arith) (omega arith)), c.fold.ensures.1)

pub returns : goal.returns
returns c =
    let a = c.args in (
      c.fold-2.ensures.0 ∙ rw (c.first_word-first.ensures, c.get64.ensures, c.get64-2.ensures) (key-long a.s.now a.b a.e (omega arith) (omega arith)),
      c.fold-2.ensures.1,
    )
