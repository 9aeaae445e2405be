-- The promises of the readers of crate text leave one outcome: the place. Assumes nothing.
--
--   skip-blanks-once, token-end-once, quoted-end-once, label-end-once, past-length-once, past-closing-once
use Rattle.text.proofs.skip_blanks.Reads as skip-blanks
use Rattle.text.proofs.token_end.Reads as token_end
use Rattle.text.proofs.quoted_end.Reads as quoted-end
use Rattle.text.proofs.label_end.Reads as label-end
use Rattle.text.proofs.past_length.Reads as past-length
use Rattle.text.proofs.past_closing.Reads as past-closing
use Rattle.text.specs.OnceLaws.{skipped-once, run-once, quoted-once, label-once, behind-once, closing-once}
use Rattle.promises.specs.Once.{AnswerOnce}

pub skip-blanks-once : AnswerOnce skip-blanks.Post
skip-blanks-once k x q r y z a b = skipped-once _ _ q r a b

pub token-end-once : AnswerOnce token_end.Post
token-end-once k x q r y z a b = run-once _ _ q r a b

pub quoted-end-once : AnswerOnce quoted-end.Post
quoted-end-once k x q r y z a b = quoted-once _ _ q r a b

pub label-end-once : AnswerOnce label-end.Post
label-end-once k x q r y z a b = label-once _ _ q r a b

pub past-length-once : AnswerOnce past-length.Post
past-length-once k x q r y z a b = behind-once _ _ _ q r a b

pub past-closing-once : AnswerOnce past-closing.Post
past-closing-once k x q r y z a b = closing-once _ _ _ q r a b
