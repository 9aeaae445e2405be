use native.Mathlib.Omega.{arith}
use borrow.Author.Rules.{rules}
use mathlib.Core.Path.{◌≡◌, sym, ◌∙◌}
use lib.ListN.{length}
use Rattle.nexus.specs.TokenLaws.{run_none, run_more}
use Rattle.nexus.proofs.plain.past_openings.Goals as goal

pub loop-at-init : goal.loop-at-init
loop-at-init c = run_none _ _ _ (search rules)

pub returns-then-not-is_opening : goal.returns-then-not-is_opening
returns-then-not-is_opening c = c.loop-at.invariant

pub loop-at-preserved : goal.loop-at-preserved
loop-at-preserved c = run_more c.loop-at.invariant (search rules) (sym c.is_opening.ensures ∙ c.if-not-is_opening.false)

pub returns : goal.returns
returns c = let e : c.loop-at.at ≡ length c.args.raw.now = omega arith in rw e at c.loop-at.invariant
