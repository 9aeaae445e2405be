-- `nexus::feed::text_at` meets its contract: the line's text, or none. Assumes nothing.
use mathlib.Core.Path.{subst}
use native.Mathlib.Omega.{arith}
use Rattle.nexus.specs.Commands.{LineMoves}
use Rattle.nexus.specs.FeedLaws.{line-fits, line-text, line-end, line-wrong}
use Rattle.nexus.proofs.feed.text_at.Goals as goal

pub overflow_add-result : goal.overflow_add-result
overflow_add-result c = let l = subst (LineMoves _) c.in-Text.is c.read_line-l.ensures in omega (arith, line-fits _ _ _ c.command_end-end.ensures _ l, c.command_end-end.ensures.within)

pub returns-in-Text : goal.returns-in-Text
returns-in-Text c = let l = subst (LineMoves _) c.in-Text.is c.read_line-l.ensures in line-text _ _ _ c.command_end-end.ensures _ l (line-fits _ _ _ c.command_end-end.ensures _ l)

pub returns-in-End : goal.returns-in-End
returns-in-End c = line-end _ _ _ c.command_end-end.ensures (subst (LineMoves _) c.in-End.is c.read_line-l.ensures)

pub returns-in-Wrong : goal.returns-in-Wrong
returns-in-Wrong c = line-wrong _ _ _ c.command_end-end.ensures (subst (LineMoves _) c.in-Wrong.is c.read_line-l.ensures)
