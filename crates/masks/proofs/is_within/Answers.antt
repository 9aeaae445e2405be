-- `masks::is_within` meets its contract. Assumes nothing.
use mathlib.Core.Path.{refl}
use Rattle.trees.specs.Mask.{within}
use Rattle.masks.proofs.is_within.Goals as goal

pub returns : goal.returns
unfolding within
returns c = refl
