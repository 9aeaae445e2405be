-- `masks::only_taxon` meets its contract. Assumes nothing.
use Rattle.masks.specs.MaskLaws.{shift_one}
use Rattle.masks.proofs.only_taxon.Goals as goal

pub returns : goal.returns
returns c = shift_one 64 _ c.requires
