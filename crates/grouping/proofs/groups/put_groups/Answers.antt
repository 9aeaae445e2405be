-- `grouping::groups::put_groups` meets its contract: the groups are found, and a line is put for each. Assumes nothing.
use Prim.Native.Nat.{ℕ}
use native.Mathlib.Omega.{arith}
use mathlib.Core.Path.{sym, ap}
use lib.ListN.{length, replicate, length-replicate}
use lib.Seq.{length-take-le}
use Rattle.grouping.specs.MajorityLaws.{majority-few, groups-are, counts-are}
use Rattle.grouping.specs.LineLaws.{groups-put}
use Rattle.grouping.proofs.groups.put_groups.Goals as goal

pub majority_groups-k-requires : goal.majority_groups-k-requires
majority_groups-k-requires c = let n = length-replicate {A = ℕ} 64 0 in record { s_value = c.requires.s_value; in_bounds = omega (arith, n); in_bounds_2 = omega (arith, n) }

pub slice_bounds-list-end : goal.slice_bounds-list-end
slice_bounds-list-end c = omega (arith, c.majority_groups-k.ensures.value, majority-few _ c.requires.s_value)

pub slice_bounds-put_each-end : goal.slice_bounds-put_each-end
slice_bounds-put_each-end c = let g = c.majority_groups-k in sym (length-take-le _ _ (omega (arith, g.auto.masks, g.ensures.value, majority-few _ c.requires.s_value, length-replicate {A = ℕ} 64 0)))

pub slice_bounds-counts-end : goal.slice_bounds-counts-end
slice_bounds-counts-end c = omega (arith, c.majority_groups-k.ensures.value, majority-few _ c.requires.s_value)

pub slice_bounds-put_each-end-2 : goal.slice_bounds-put_each-end-2
slice_bounds-put_each-end-2 c = let g = c.majority_groups-k in sym (length-take-le _ _ (omega (arith, g.auto.counts, g.ensures.value, majority-few _ c.requires.s_value, length-replicate {A = ℕ} 64 0)))

pub put_each-requires : goal.put_each-requires
put_each-requires c =
    let w = c.requires.s_value in
    let masks = groups-are _ w c.majority_groups-k.ensures.value (replicate 64 0) c.majority_groups-k.ensures.masks_after in
    let counts = counts-are _ w c.majority_groups-k.ensures.value (replicate 64 0) c.majority_groups-k.ensures.counts_after in record { s_value = w; counts_value = search (counts, masks); list_len_bound = omega (arith, ap length masks, majority-few _ w); at_bound = omega (arith, c.requires.at_bound) }

pub returns : goal.returns
returns c =
    let w = c.requires.s_value in
    let masks = groups-are _ w c.majority_groups-k.ensures.value (replicate 64 0) c.majority_groups-k.ensures.masks_after in record { put = groups-put _ masks c.put_each.ensures.put; upper_bound = omega (arith, c.put_each.ensures.upper_bound, ap length masks, majority-few _ w) }
