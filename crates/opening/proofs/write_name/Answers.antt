-- `opening::write_name` meets its contract: the name and the byte before it, copied. Assumes nothing.
use mathlib.Core.Path.{◌∙◌}
use native.Mathlib.Omega.{arith}
use Rattle.opening.specs.WritingLaws.{copied-name}
use Rattle.opening.proofs.write_name.Goals as goal

pub returns : goal.returns
returns c = c.copy_from.ensures ∙ copied-name _ _ _ _ c.name_length-n.ensures.0 (omega arith)
