-- `phylip::values::value_at` meets its contract. Assumes nothing.
use Rattle.phylip.specs.PlaceLaws.{value-place}
use Rattle.phylip.proofs.values.value_at.Goals as goal

pub returns : goal.returns
returns c = value-place _ _ _ _ c.spaces_end.ensures c.number_at.ensures
