-- `summary::first_line::count_space` meets its contract. Assumes nothing.
use native.Mathlib.Omega.{arith}
use Rattle.summary.specs.FirstLineLaws.{space-quoted, space-not, space-full, space-more}
use Rattle.summary.proofs.first_line.count_space.Goals as goal

pub returns-then-quoted : goal.returns-then-quoted
returns-then-quoted c = space-quoted _ _ _ c.if-quoted.true

pub returns-then-b-ne32 : goal.returns-then-b-ne32
returns-then-b-ne32 c = space-not _ _ _ c.if-quoted.false c.if-b-ne32.true

pub returns-then-spaces-ge64 : goal.returns-then-spaces-ge64
returns-then-spaces-ge64 c = space-full _ _ _ c.if-quoted.false c.if-b-ne32.false c.if-spaces-ge64.true

pub returns : goal.returns
returns c = space-more _ _ _ c.if-quoted.false c.if-b-ne32.false (omega arith)
