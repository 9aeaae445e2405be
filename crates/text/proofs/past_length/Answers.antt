-- `text::past_length` meets its contract. Assumes nothing.
use native.Mathlib.Omega.{arith}
use mathlib.Core.Path.{sym, ◌∙◌}
use Rattle.text.specs.PlaceLaws.{behind, is-colon, byte-there, byte-else}
use Rattle.text.proofs.PastLaws.{length_none, length-decimal, length-fault, length-past}
use Rattle.text.proofs.past_length.Goals as goal

pub returns-then-not-has_byte : goal.returns-then-not-has_byte
returns-then-not-has_byte c = length_none _ _ _ c.skip_blanks-colon.ensures (byte-else _ _ is-colon (sym c.has_byte.ensures ∙ c.if-not-has_byte.true))

pub skip_blanks-b-requires : goal.skip_blanks-b-requires
skip_blanks-b-requires c = behind _ _ 5 (byte-there _ _ is-colon (sym c.has_byte.ensures ∙ c.if-not-has_byte.false)) (omega arith)

pub past_decimal-d-requires : goal.past_decimal-d-requires
past_decimal-d-requires c = c.skip_blanks-b.ensures.within

pub returns-then-d-text : goal.returns-then-d-text
returns-then-d-text c = length-decimal _ _ _ _ _ c.skip_blanks-colon.ensures (byte-there _ _ is-colon (sym c.has_byte.ensures ∙ c.if-not-has_byte.false)) c.skip_blanks-b.ensures c.past_decimal-d.ensures c.if-d-text.true

pub past_number-e-requires : goal.past_number-e-requires
past_number-e-requires c = (c.skip_blanks-b.ensures.within, c.skip_blanks-b.ensures.stop)

pub returns-then-text-e : goal.returns-then-text-e
returns-then-text-e c = length-fault _ _ _ _ _ c.skip_blanks-colon.ensures (byte-there _ _ is-colon (sym c.has_byte.ensures ∙ c.if-not-has_byte.false)) c.skip_blanks-b.ensures c.past_number-e.ensures c.if-text-e.true

pub returns : goal.returns
returns c = length-past _ _ _ _ _ _ c.skip_blanks-colon.ensures (byte-there _ _ is-colon (sym c.has_byte.ensures ∙ c.if-not-has_byte.false)) c.skip_blanks-b.ensures c.past_number-e.ensures c.if-text-e.false c.skip_blanks.ensures
