-- `phylip::writing::write_matrix` meets its contract. Assumes nothing.
use mathlib.Core.Path.{sym, ◌∙◌}
use borrow.Author.Tests.{leb-true, leb-false}
use Rattle.answers.specs.AnswerLaws.{filled-refused}
use Rattle.store.specs.LentLaws.{not-whole}
use Rattle.phylip.specs.WritingLaws.{phylip-short, phylip-given}
use Rattle.phylip.proofs.writing.write_matrix.Goals as goal

pub returns-then-not-is_whole : goal.returns-then-not-is_whole
returns-then-not-is_whole c = filled-refused _ _ _ (not-whole _ _ (sym c.is_whole.ensures ∙ c.if-not-is_whole.true))

pub has_room-requires : goal.has_room-requires
has_room-requires c = sym c.is_whole.ensures ∙ c.if-not-is_whole.false

pub returns-then-not-has_room : goal.returns-then-not-has_room
returns-then-not-has_room c =
    let w = sym c.is_whole.ensures ∙ c.if-not-is_whole.false in
    phylip-short _ w _ (leb-false _ _ (sym c.has_room.ensures ∙ c.if-not-has_room.true))

pub put_matrix-n-requires : goal.put_matrix-n-requires
put_matrix-n-requires c = sym c.is_whole.ensures ∙ c.if-not-is_whole.false

pub returns : goal.returns
returns c =
    let w = sym c.is_whole.ensures ∙ c.if-not-is_whole.false in
    phylip-given _ w _ _ _ (leb-true _ _ (sym c.has_room.ensures ∙ c.if-not-has_room.false)) c.put_matrix-n.ensures
