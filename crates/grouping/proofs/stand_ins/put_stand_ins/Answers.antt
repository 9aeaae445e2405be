-- `grouping::stand_ins::put_stand_ins` meets its contract: the groups are found, and the lines are put. Assumes nothing.
use Prim.Native.Nat.{ℕ}
use native.Mathlib.Omega.{arith}
use mathlib.Core.Path.{sym}
use lib.ListN.{replicate, length-replicate}
use lib.Seq.{length-take-le}
use Rattle.grouping.specs.MajorityLaws.{majority-few, groups-are, counts-are}
use Rattle.grouping.proofs.stand_ins.put_stand_ins.Goals as goal

pub majority_groups-k-requires : goal.majority_groups-k-requires
majority_groups-k-requires c = let n = length-replicate {A = ℕ} 64 0 in record { s_value = c.requires.s_value; in_bounds = omega (arith, n); in_bounds_2 = omega (arith, n) }

pub slice_bounds-list-end : goal.slice_bounds-list-end
slice_bounds-list-end c = omega (arith, c.majority_groups-k.ensures.value, majority-few _ c.requires.s_value)

pub slice_bounds-put_all-end : goal.slice_bounds-put_all-end
slice_bounds-put_all-end c = let g = c.majority_groups-k in sym (length-take-le _ _ (omega (arith, g.auto.masks, g.ensures.value, majority-few _ c.requires.s_value, length-replicate {A = ℕ} 64 0)))

pub slice_bounds-counts-end : goal.slice_bounds-counts-end
slice_bounds-counts-end c = omega (arith, c.majority_groups-k.ensures.value, majority-few _ c.requires.s_value)

pub slice_bounds-put_all-end-2 : goal.slice_bounds-put_all-end-2
slice_bounds-put_all-end-2 c = let g = c.majority_groups-k in sym (length-take-le _ _ (omega (arith, g.auto.counts, g.ensures.value, majority-few _ c.requires.s_value, length-replicate {A = ℕ} 64 0)))

pub put_all-requires : goal.put_all-requires
put_all-requires c =
    let w = c.requires.s_value in
    let masks = groups-are _ w c.majority_groups-k.ensures.value (replicate 64 0) c.majority_groups-k.ensures.masks_after in
    let counts = counts-are _ w c.majority_groups-k.ensures.value (replicate 64 0) c.majority_groups-k.ensures.counts_after in record { s_value = w; list_value = masks; counts_value = search (counts, masks); i_bound = omega (arith, c.requires.i_bound); at_bound = omega (arith, c.requires.at_bound) }

pub returns : goal.returns
returns c = record { put = c.put_all.ensures.put; upper_bound = c.put_all.ensures.upper_bound }
