-- `phylip::values::with_digit` meets its contract. Assumes nothing.
use Rattle.phylip.specs.PlaceLaws.{capped-least}
use Rattle.phylip.proofs.values.with_digit.Goals as goal

pub returns : goal.returns
returns c = rw (c.min.ensures, c.from.ensures) (capped-least _)
