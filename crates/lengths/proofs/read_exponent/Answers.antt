-- `lengths::read_exponent` meets its contract. Assumes nothing.
use native.Mathlib.Omega.{arith}
use mathlib.Core.Path.{sym, ◌∙◌}
use Rattle.lengths.specs.ReadLaws.{e-there, exponent-none, exponent-some}
use Rattle.lengths.proofs.read_exponent.Goals as goal

pub returns-then-not-has_e : goal.returns-then-not-has_e
returns-then-not-has_e c = exponent-none _ _ (sym c.has_e.ensures ∙ c.if-not-has_e.true)

-- in the answers below, f is where an e was found
pub past_sign-requires : goal.past_sign-requires
past_sign-requires c =
    let p = e-there _ _ (sym c.has_e.ensures ∙ c.if-not-has_e.false) in
    omega (arith, p.0)

pub returns : goal.returns
returns c = exponent-some _ _ _ _ c.read_digits-digits.result (sym c.has_e.ensures ∙ c.if-not-has_e.false) c.is_minus-negative.ensures c.past_sign.ensures c.read_digits-digits.ensures
