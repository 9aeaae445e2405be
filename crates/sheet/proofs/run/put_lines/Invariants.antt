-- `sheet::run::put_lines` meets its contract. The loop's invariant: the lines below j stand at the front of out, and the rest is still to come. Assumes nothing.
use mathlib.Core.Path.{◌≡◌}
use lib.ListN.{length}
use Rattle.layout.specs.Store.{held_at}
use Rattle.sheet.specs.Sheet.{sheet_lines}
use Rattle.sheet.specs.Run.{Printing}
use Rattle.sheet.proofs.run.put_lines.Given as goal

abbrev pub invariant-loop-j : goal.invariant-loop-j
invariant-loop-j l = (length l.text ≡ 8192) × Printing (sheet_lines (held_at l.s) l.refused) l.from l.j l.initial.out l.out l.at
