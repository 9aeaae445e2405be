-- `masks::count_taxa` meets its contract. Assumes nothing.
use mathlib.Core.Path.{refl}
use lib.Count.{ones-le}
use Rattle.masks.proofs.count_taxa.Goals as goal

pub returns : goal.returns
returns c = record { value = refl; upper_bound = ones-le 64 _ c.ranges.m.fits }
