-- `head::short_word` meets its contract: the bytes stand in front of zeros. Assumes nothing.
use Rattle.std.proofs.Common.{refl, ◌∙◌, arith}
use Rattle.head.specs.WordLaws.{word_copied}
use Rattle.head.proofs.short_word.Goals as goal

pub returns : goal.returns
returns c =
    let a = c.args in
    c.get64.ensures ∙ rw c.copy_from.ensures (word_copied a.s.now a.b _ (omega arith) a.n refl (omega arith))
