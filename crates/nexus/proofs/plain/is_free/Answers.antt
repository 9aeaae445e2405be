-- `nexus::plain::is_free` meets its contract. Assumes nothing.
use mathlib.Core.Path.{sym, ap, ◌∙◌}
use mathlib.Core.Bool.{not}
use mathlib.Core.List.{[]}
use Rattle.nexus.specs.KeptLaws.{free-blank, free-bare}
use Rattle.nexus.proofs.plain.is_free.Goals as goal

pub returns-then-is_blank : goal.returns-then-is_blank
returns-then-is_blank c = sym (free-blank _ _ (sym c.is_blank.ensures.value ∙ c.if-is_blank.true))

pub returns : goal.returns
returns c = ap not c.is_mark.ensures ∙ sym (free-bare _ [] _ (sym c.is_blank.ensures.value ∙ c.if-is_blank.false))
