-- `summary::first_line::turn_quotes` meets its contract. Assumes nothing.
use Rattle.summary.specs.FirstLineLaws.{quote-turns, quote-stays}
use Rattle.summary.proofs.first_line.turn_quotes.Goals as goal

pub returns-then-b-eq39 : goal.returns-then-b-eq39
returns-then-b-eq39 c = quote-turns _ _ c.if-b-eq39.true

pub returns : goal.returns
returns c = quote-stays _ _ c.if-b-eq39.false
