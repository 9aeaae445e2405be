-- `nexus::plain::is_kept` meets its contract. Assumes nothing.
use mathlib.Core.Path.{sym, ◌∙◌}
use Rattle.nexus.specs.KeptLaws.{kept_label, kept-mark}
use Rattle.nexus.proofs.plain.is_kept.Goals as goal

pub returns-then-is_label_byte : goal.returns-then-is_label_byte
returns-then-is_label_byte c = sym (kept_label _ (sym c.is_label_byte.ensures ∙ c.if-is_label_byte.true))

pub returns : goal.returns
returns c = c.is_mark.ensures ∙ sym (kept-mark _ (sym c.is_label_byte.ensures ∙ c.if-is_label_byte.false))
