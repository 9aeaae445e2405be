-- `fields::get32` meets its contract: two halves. Assumes nothing.
use Rattle.fields.specs.FieldLaws.{number_halves}
use Rattle.fields.proofs.get32.Goals as goal

pub returns : goal.returns
returns c = number_halves 2 _ _ c.from.ensures c.from-2.ensures c.get16.ensures c.get16-2.ensures
