-- `text::labels::closes` meets its contract. Assumes nothing.
use Rattle.text.proofs.labels.closes.Goals as goal

pub returns-then-inside : goal.returns-then-inside
returns-then-inside c = rw c.if-inside.true

pub returns : goal.returns
returns c = rw c.if-inside.false
