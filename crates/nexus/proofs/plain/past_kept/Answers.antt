use native.Mathlib.Omega.{arith}
use borrow.Author.Rules.{rules}
use mathlib.Core.Path.{◌≡◌, sym, ◌∙◌}
use lib.ListN.{length}
use Rattle.nexus.specs.TokenLaws.{run_none, run_more}
use Rattle.nexus.proofs.plain.past_kept.Goals as goal

pub loop-at-init : goal.loop-at-init
loop-at-init c = run_none _ _ _ (search rules)

pub returns-then-not-is_kept : goal.returns-then-not-is_kept
returns-then-not-is_kept c = record { run = c.loop-at.invariant; stop = λ h. sym c.is_kept.ensures ∙ c.if-not-is_kept.true }

pub loop-at-preserved : goal.loop-at-preserved
loop-at-preserved c = run_more c.loop-at.invariant (search rules) (sym c.is_kept.ensures ∙ c.if-not-is_kept.false)

pub returns : goal.returns
returns c = let e : c.loop-at.at ≡ length c.args.raw.now = omega arith in record { run = rw e at c.loop-at.invariant; stop = λ h. absurd (omega arith) }
