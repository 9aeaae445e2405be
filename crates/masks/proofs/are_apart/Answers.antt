-- `masks::are_apart` meets its contract. Assumes nothing.
use mathlib.Core.Path.{refl}
use Rattle.trees.specs.Mask.{apart}
use Rattle.masks.proofs.are_apart.Goals as goal

pub returns : goal.returns
unfolding apart
returns c = refl
