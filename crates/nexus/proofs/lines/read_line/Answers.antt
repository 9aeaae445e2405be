-- `nexus::lines::read_line` meets its contract. Assumes nothing.
use mathlib.Core.Path.{sym, subst, ◌∙◌}
use Rattle.nexus.specs.Commands.{LineAs}
use Rattle.nexus.specs.LineLaws.{ends-trees, line-wrong, line-brings}
use Rattle.nexus.proofs.lines.read_line.Goals as goal

pub returns-then-is_end : goal.returns-then-is_end
returns-then-is_end c = ends-trees _ (sym c.is_end.ensures ∙ c.if-is_end.true)

pub returns-in_default : goal.returns-in_default
returns-in_default c = line-wrong _ (sym c.is_end.ensures ∙ c.if-is_end.false) (subst (LineAs _) c.in_default.is c.text_from.ensures)

pub returns : goal.returns
returns c = line-brings _ (sym c.is_end.ensures ∙ c.if-is_end.false) _ (subst (LineAs _) c.in-Some.is c.text_from.ensures)
