-- `nexus::tokens::is_name_byte` meets its contract. Assumes nothing.
use mathlib.Core.Path.{sym, ◌∙◌}
use Rattle.nexus.specs.TokenLaws.{name-equals, name-label}
use Rattle.nexus.proofs.tokens.is_name_byte.Goals as goal

pub returns-then-b-eq61 : goal.returns-then-b-eq61
returns-then-b-eq61 c = sym (name-equals _ c.if-b-eq61.true)

pub returns : goal.returns
returns c = c.is_label_byte.ensures ∙ sym (name-label _ c.if-b-eq61.false)
