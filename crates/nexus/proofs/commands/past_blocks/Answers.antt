use mathlib.Core.Path.{sym, ◌∙◌}
use native.Mathlib.Omega.{arith}
use Rattle.nexus.specs.PlainLaws.{run_none, run-block}
use Rattle.nexus.proofs.commands.past_blocks.Goals as goal

pub loop-at-init : goal.loop-at-init
loop-at-init c = run_none _ _ (omega arith)

pub returns-then-not-all : goal.returns-then-not-all
returns-then-not-all c = c.loop-at.invariant

pub loop-at-preserved : goal.loop-at-preserved
loop-at-preserved c = run-block _ _ _ c.loop-at.invariant (omega arith) (sym c.all_plain-all.ensures ∙ c.if-not-all.false)

pub returns : goal.returns
returns c = c.loop-at.invariant
