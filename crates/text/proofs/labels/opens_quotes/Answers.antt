-- `text::labels::opens_quotes` meets its contract. Assumes nothing.
use native.Mathlib.Omega.{arith}
use Rattle.text.specs.LabelsLaws.{opens-there, opens-none}
use Rattle.text.proofs.labels.opens_quotes.Goals as goal

pub returns-then-b-e : goal.returns-then-b-e
returns-then-b-e c =
    let a = c.args in
    opens-there a.text.now a.b a.e (omega arith) (omega arith)

pub returns : goal.returns
returns c =
    let a = c.args in
    opens-none a.text.now a.b a.e (omega arith) (omega arith)
