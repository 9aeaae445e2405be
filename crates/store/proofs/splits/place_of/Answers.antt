-- `store::splits::place_of` meets its contract: the sum does not wrap. Assumes nothing.
use Rattle.std.proofs.Common.{◌<◌, mod-lt, arith}
use Rattle.trees.specs.Hash.{place}
use Rattle.layout.specs.InsideLaws.{ranges}
use Rattle.store.specs.GoodHeadLaws.{sum-most, sum-read}
use Rattle.store.proofs.splits.place_of.Goals as goal

pub overflow_cast-result : goal.overflow_cast-result
overflow_cast-result c =
    let g = c.requires.head_at in
    omega (arith, sum-read _ g _ _ _ c.requires.sums c.sum_over.ensures, sum-most _ g c.args.m)

pub places-requires : goal.places-requires
places-requires c = c.requires.head_at.head-there

pub nonzero_rem-result : goal.nonzero_rem-result
nonzero_rem-result c = let g = c.requires.head_at in omega (arith, (ranges _ g).least-places)

pub overflow_cast-result-2 : goal.overflow_cast-result-2
overflow_cast-result-2 c =
    let g = c.requires.head_at in
    let p : 0 < c.places.result = omega (arith, (ranges _ g).least-places) in
    omega (arith, mod-lt c.sum_over.result p)

pub returns : goal.returns
unfolding place
returns c =
    let e = sum-read _ c.requires.head_at _ _ _ c.requires.sums c.sum_over.ensures in
    rw (e, c.places.ensures.value)
