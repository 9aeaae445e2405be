-- `text::past_decimal` meets its contract. Assumes nothing.
use native.Mathlib.Omega.{arith}
use mathlib.Core.Path.{sym, ◌∙◌}
use Rattle.text.proofs.TokenLaws.{byte-stands}
use Rattle.text.proofs.NumberLaws.{decimal-none, decimal-comma, decimal-close}
use Rattle.text.proofs.past_decimal.Goals as goal

pub returns-then-point-from : goal.returns-then-point-from
returns-then-point-from c = decimal-none _ _

pub returns-then-not-has_byte : goal.returns-then-not-has_byte
returns-then-not-has_byte c = decimal-none _ _

pub past_digits-behind-requires : goal.past_digits-behind-requires
past_digits-behind-requires c = let h = (byte-stands _ _ _ (sym c.has_byte.ensures ∙ c.if-not-has_byte.false)).0 in omega arith

pub returns-then-has_byte : goal.returns-then-has_byte
returns-then-has_byte c = decimal-comma _ _ _ _ c.past_digits-point.ensures c.if-point-from.false (sym c.has_byte.ensures ∙ c.if-not-has_byte.false) c.past_digits-behind.ensures (sym c.has_byte-2.ensures ∙ c.if-has_byte.true)

pub returns-then-has_byte-2 : goal.returns-then-has_byte-2
returns-then-has_byte-2 c = decimal-close _ _ _ _ c.past_digits-point.ensures c.if-point-from.false (sym c.has_byte.ensures ∙ c.if-not-has_byte.false) c.past_digits-behind.ensures (sym c.has_byte-3.ensures ∙ c.if-has_byte-2.true)

pub returns : goal.returns
returns c = decimal-none _ _
