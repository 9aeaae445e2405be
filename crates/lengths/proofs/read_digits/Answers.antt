use Rattle.std.proofs.Common.{◌≡◌, refl, length, arith}
use borrow.Author.Rules.{rules}
use Rattle.lengths.specs.ReadLaws.{got-none, got-more, got-stop, got-all, below-digit, above-digit}
use Rattle.lengths.proofs.read_digits.Goals as goal

pub loop-i-init : goal.loop-i-init
loop-i-init c = got-none _ _ _ _ (search rules)

pub returns-then-b-lt48 : goal.returns-then-b-lt48
returns-then-b-lt48 c = got-stop _ _ _ _ _ _ _ c.loop-i.invariant c.from-b.ensures (below-digit _ c.if-b-lt48.true)

pub returns-then-b-gt57 : goal.returns-then-b-gt57
returns-then-b-gt57 c = got-stop _ _ _ _ _ _ _ c.loop-i.invariant c.from-b.ensures (above-digit _ c.if-b-gt57.true)

pub loop-i-preserved : goal.loop-i-preserved
loop-i-preserved c = got-more _ _ _ _ _ _ _ c.from-b.result _ c.loop-i.invariant (search rules) (search rules) c.from-b.ensures (search rules) (search rules) refl c.with_digit-m.ensures

pub returns : goal.returns
returns c =
    let e : c.loop-i.i ≡ length c.args.text.now = omega arith in
    rw e at (got-all _ _ _ _ _ _ c.loop-i.invariant (search rules))
