-- `text::past_label` meets its contract. Assumes nothing.
use Rattle.text.proofs.PastLaws.{label-past, label-fault}
use Rattle.text.proofs.past_label.Goals as goal

pub returns-then-text-e : goal.returns-then-text-e
returns-then-text-e c = label-fault _ _ _ _ c.skip_blanks-at.ensures c.label_end-e.ensures c.if-text-e.true

pub returns : goal.returns
returns c = label-past _ _ _ _ _ c.skip_blanks-at.ensures c.label_end-e.ensures c.if-text-e.false c.past_length.ensures
