-- `masks::has_taxon` meets its contract. Assumes nothing.
use mathlib.Core.Path.{refl}
use Rattle.trees.specs.Mask.{has}
use Rattle.masks.proofs.has_taxon.Goals as goal

pub returns : goal.returns
unfolding has
returns c = refl
