-- `lengths::read_decimal` meets its contract. Assumes nothing.
use native.Mathlib.Omega.{arith}
use borrow.Author.Rules.{rules}
use Rattle.lengths.specs.ReadLaws.{decimal-whole, decimal-point}
use Rattle.lengths.proofs.read_decimal.Goals as goal

pub returns-then-text-at-eq46 : goal.returns-then-text-at-eq46
returns-then-text-at-eq46 c = (decimal-point _ _ c.read_digits-whole.result c.read_digits-whole.ensures c.read_digits-part.result (search rules) c.if-text-at-eq46.true c.read_digits-part.ensures)

pub returns-else-text-at-eq46 : goal.returns-else-text-at-eq46
returns-else-text-at-eq46 c = decimal-whole _ _ c.read_digits-whole.result c.read_digits-whole.ensures (λ l. c.if-text-at-eq46.false)

pub returns-else-at-text : goal.returns-else-at-text
returns-else-at-text c = decimal-whole _ _ c.read_digits-whole.result c.read_digits-whole.ensures (λ l. absurd (omega arith))
