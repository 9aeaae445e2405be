use mathlib.Core.Path.{subst}
use borrow.Author.Rules.{rules}
use Rattle.nexus.specs.Commands.{LineMoves}
use Rattle.nexus.specs.CountLaws.{counting-none, counting-out, counting-wrong, counting-end, counting_more}
use Rattle.nexus.proofs.blocks.count_lines.Goals as goal

pub loop-from-init : goal.loop-from-init
loop-from-init c = counting-none _ _ (search rules)

pub returns-then-end-f : goal.returns-then-end-f
returns-then-end-f c = counting-out _ _ _ _ _ c.loop-from.invariant c.command_end-end.ensures c.if-end-f.true

pub returns-in-End : goal.returns-in-End
returns-in-End c =
    let end = c.command_end-end.ensures in
    let more = c.if-end-f.false in
    let line = subst (LineMoves _) c.in-End.is c.read_line-l.ensures in
    counting-end _ _ _ _ _ c.loop-from.invariant end more line

pub returns-in-Wrong : goal.returns-in-Wrong
returns-in-Wrong c =
    let line = subst (LineMoves _) c.in-Wrong.is c.read_line-l.ensures in
    counting-wrong _ _ _ _ _ c.loop-from.invariant c.command_end-end.ensures c.if-end-f.false line

pub loop-from-preserved : goal.loop-from-preserved
loop-from-preserved c =
    counting_more _ _ _ _ _ c.loop-from.invariant c.command_end-end.ensures c.if-end-f.false _
    (subst (LineMoves _) c.in-Text.is c.read_line-l.ensures)
