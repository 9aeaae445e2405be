-- `fields::get64` meets its contract: two halves. Assumes nothing.
use Rattle.fields.specs.FieldLaws.{number_halves}
use Rattle.fields.proofs.get64.Goals as goal

pub returns : goal.returns
returns c = number_halves 4 _ _ c.from.ensures c.from-2.ensures c.get32.ensures c.get32-2.ensures
