use Rattle.std.proofs.Common.{arith}
use Rattle.layout.specs.InsideLaws.{ranges}
use Rattle.store.specs.SumLaws.{constants-length, sums_none, sums-more, blank-more, sums-all}
use Rattle.store.proofs.sums.fill_sums.Goals as goal

pub taxa-taxa-requires : goal.taxa-taxa-requires
taxa-taxa-requires c = c.requires.head_at.head-there

pub loop-b-init : goal.loop-b-init
loop-b-init c = (omega arith, sums_none _ _, c.requires.blank)

pub fill_byte-requires : goal.fill_byte-requires
fill_byte-requires c = record { head_at = c.requires.head_at; b_bound = omega (arith, c.taxa-taxa.ensures.value, (ranges _ c.requires.head_at).most-taxa); sums_len = c.loop-b.invariant.2.long }

pub loop-b-preserved : goal.loop-b-preserved
loop-b-preserved c =
    let v = c.loop-b.invariant in
    let d = c.fill_byte.ensures in
    (omega (arith, c.taxa-taxa.ensures.value, (ranges _ c.requires.head_at).most-taxa), sums-more _ _ _ _ v.1 d, blank-more _ _ _ _ _ (omega (arith, c.taxa-taxa.ensures.value)) v.2 d)

pub returns : goal.returns
returns c = let v = c.loop-b.invariant in record { sums = sums-all _ _ _ _ (constants-length _ _) (omega (arith, c.taxa-taxa.ensures.value)) v.1 v.2; blank_2 = v.2 }
