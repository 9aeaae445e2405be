-- `text::past_closing` meets its contract. Assumes nothing.
use native.Mathlib.Omega.{arith}
use mathlib.Core.Path.{sym, ◌∙◌}
use Rattle.text.specs.PlaceLaws.{behind, is-close, byte-there, byte-else}
use Rattle.text.proofs.PastLaws.{closing-other, closing-few, closing-past}
use Rattle.text.proofs.past_closing.Goals as goal

pub returns-then-not-has_byte : goal.returns-then-not-has_byte
returns-then-not-has_byte c = closing-other _ _ _ c.requires (byte-else _ _ is-close (sym c.has_byte.ensures ∙ c.if-not-has_byte.true))

pub returns-then-n-lt2 : goal.returns-then-n-lt2
returns-then-n-lt2 c = closing-few _ _ _ (byte-there _ _ is-close (sym c.has_byte.ensures ∙ c.if-not-has_byte.false)) c.if-n-lt2.true

pub overflow_add-at : goal.overflow_add-at
overflow_add-at c = record { fits = omega (arith, behind c.args.text.now c.args.at 3 (byte-there _ _ is-close (sym c.has_byte.ensures ∙ c.if-not-has_byte.false)) (omega arith), c.well_formed.0.0) }

pub past_label-requires : goal.past_label-requires
past_label-requires c = behind _ _ 3 (byte-there _ _ is-close (sym c.has_byte.ensures ∙ c.if-not-has_byte.false)) (omega arith)

pub returns : goal.returns
returns c = closing-past _ _ _ _ (byte-there _ _ is-close (sym c.has_byte.ensures ∙ c.if-not-has_byte.false)) c.if-n-lt2.false c.past_label.ensures
