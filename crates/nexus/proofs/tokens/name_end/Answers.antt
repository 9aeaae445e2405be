use mathlib.Core.Path.{◌≡◌}
use native.Mathlib.Omega.{arith}
use borrow.Author.Rules.{rules}
use lib.ListN.{length}
use Rattle.opening.specs.GivenLaws.{failed, passed}
use Rattle.nexus.specs.TokenLaws.{run_none, run_more, name-at}
use Rattle.nexus.proofs.tokens.name_end.Goals as goal

pub loop-at-init : goal.loop-at-init
loop-at-init c = run_none _ _ _ (search rules)

pub returns-then-not-is_name_byte : goal.returns-then-not-is_name_byte
returns-then-not-is_name_byte c = name-at _ _ _ c.loop-at.invariant (λ h. failed _ _ c.is_name_byte.ensures c.if-not-is_name_byte.true-raw)

pub loop-at-preserved : goal.loop-at-preserved
loop-at-preserved c = run_more c.loop-at.invariant (search rules) (passed _ _ c.is_name_byte.ensures c.if-not-is_name_byte.false-raw)

pub returns : goal.returns
returns c = let e : c.loop-at.at ≡ length c.args.s.now = omega arith in name-at _ _ _ (rw e at c.loop-at.invariant) (λ h. absurd (omega arith))
