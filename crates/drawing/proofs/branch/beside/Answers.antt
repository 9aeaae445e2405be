-- `drawing::branch::beside` meets its contract. Assumes nothing.
use mathlib.Core.Path.{sym, ap}
use Rattle.drawing.specs.Drawing.{beside}
use Rattle.drawing.proofs.branch.beside.Goals as goal

pub returns-then-last : goal.returns-then-last
unfolding beside
returns-then-last c = sym (ap beside c.if-last.true)

pub returns : goal.returns
unfolding beside
returns c = sym (ap beside c.if-last.false)
