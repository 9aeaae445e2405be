-- `writer::names::wants_quotes` meets its contract. Assumes nothing.
use Rattle.std.proofs.Common.{◌∙◌}
use Rattle.writer.specs.NameLaws.{wants-listed}
use Rattle.writer.proofs.names.wants_quotes.Goals as goal

pub returns : goal.returns
returns c = c.contains.ensures.value ∙ wants-listed _
