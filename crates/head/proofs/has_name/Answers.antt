-- `head::has_name` meets its contract. Assumes nothing.
use Rattle.std.proofs.Common.{ap, ◌∙◌}
use lib.Seq.{take-length}
use Rattle.trees.specs.Plain.{same_bytes}
use Rattle.head.proofs.has_name.Goals as goal

pub returns : goal.returns
returns c = c.name_is.ensures ∙ ap (same_bytes _) (take-length _)
