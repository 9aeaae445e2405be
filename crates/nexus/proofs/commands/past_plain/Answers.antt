use mathlib.Core.Path.{◌≡◌, sym, ◌∙◌}
use native.Mathlib.Omega.{arith}
use lib.ListN.{length}
use Rattle.nexus.specs.PlainLaws.{run_more, run_ends}
use Rattle.nexus.proofs.commands.past_plain.Goals as goal

pub loop-at-init : goal.loop-at-init
loop-at-init c = c.past_blocks-at.ensures

pub returns-then-not-is_plain : goal.returns-then-not-is_plain
returns-then-not-is_plain c = run_ends _ _ _ c.loop-at.invariant (λ h. sym c.is_plain.ensures ∙ c.if-not-is_plain.true)

pub loop-at-preserved : goal.loop-at-preserved
loop-at-preserved c = run_more _ _ _ c.loop-at.invariant (omega arith) (sym c.is_plain.ensures ∙ c.if-not-is_plain.false)

pub returns : goal.returns
returns c = let e : c.loop-at.at ≡ length c.args.s.now = omega arith in run_ends _ _ _ (rw e at c.loop-at.invariant) (λ h. absurd (omega arith))
