-- `masks::taxa_without` meets its contract. Assumes nothing.
use Rattle.masks.specs.MaskLaws.{and-not}
use Rattle.masks.proofs.taxa_without.Goals as goal

pub returns : goal.returns
returns c = and-not 64 _ _ c.ranges.a.fits c.ranges.b.fits
