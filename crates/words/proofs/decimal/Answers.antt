use Rattle.std.proofs.Common.{arith, ◌≡◌, ◌∙◌, ◌+◌, ◌*◌, ◌-◌, sym, get_or}
use Rattle.words.specs.DigitLaws.{decimal-none, decimal-start, decimal-stop, decimal-large, decimal-more, decimal-done}
use Rattle.words.proofs.decimal.Goals as goal

pub returns-then-is_empty : goal.returns-then-is_empty
returns-then-is_empty c = decimal-none _ (sym c.is_empty.ensures ∙ c.if-is_empty.true)

pub loop-b-init : goal.loop-b-init
loop-b-init c = decimal-start _ (sym c.is_empty.ensures ∙ c.if-is_empty.false)

pub returns-then-not-is_ascii_digit : goal.returns-then-not-is_ascii_digit
returns-then-not-is_ascii_digit c = decimal-stop _ _ _ c.loop-b.invariant c.loop-b-test.true (sym c.is_ascii_digit.ensures.value ∙ c.if-not-is_ascii_digit.true)

pub returns-in_err-checked_mul : goal.returns-in_err-checked_mul
returns-in_err-checked_mul c = c.from_residual.ensures ∙ decimal-large _ _ _ c.loop-b.invariant c.loop-b-test.true (omega (arith, c.in_err-checked_mul.ensures))

pub returns-in_err-v : goal.returns-in_err-v
returns-in_err-v c = c.from_residual-in_err-v.ensures ∙ decimal-large _ _ _ c.loop-b.invariant c.loop-b-test.true (omega (arith, c.in_err-v.ensures, c.in_ok-checked_mul.ensures, c.from.ensures))

pub loop-b-preserved : goal.loop-b-preserved
loop-b-preserved c =
    let e : c.in_ok-v.v ≡ c.loop-b.v * 10 + (get_or c.args.word.now c.loop-b.b-index 0 - 48) = omega (arith, c.in_ok-v.ensures, c.in_ok-checked_mul.ensures, c.from.ensures) in
    rw e (decimal-more _ _ _ c.loop-b.invariant c.loop-b-test.true (sym c.is_ascii_digit.ensures.value ∙ c.if-not-is_ascii_digit.false) (omega (arith, c.in_ok-v.ensures)))

pub returns : goal.returns
returns c = decimal-done _ _ _ c.loop-b.invariant c.loop-b-test.false c.loop-b.auto.b-index-end
