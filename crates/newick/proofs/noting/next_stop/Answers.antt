use Rattle.std.proofs.Common.{◌≡◌, length, sym, ◌∙◌, arith, rules}
use Rattle.newick.proofs.NotingLaws.{passed_none, passed_on}
use Rattle.newick.proofs.noting.next_stop.Goals as goal

pub loop-at-init : goal.loop-at-init
loop-at-init c = passed_none _ _ c.requires.from_in_bounds c.requires.fine

pub returns-then-is_stop : goal.returns-then-is_stop
returns-then-is_stop c = record { passed = c.loop-at.invariant; stop = λ l. sym c.is_stop.ensures ∙ c.if-is_stop.true }

pub loop-at-preserved : goal.loop-at-preserved
loop-at-preserved c = passed_on _ _ _ c.loop-at.invariant (search rules) (sym c.is_stop.ensures ∙ c.if-is_stop.false)

pub returns : goal.returns
returns c = let e : c.loop-at.at ≡ length c.args.text.now = omega arith in record { passed = rw e at c.loop-at.invariant; stop = λ l. absurd (omega arith) }
