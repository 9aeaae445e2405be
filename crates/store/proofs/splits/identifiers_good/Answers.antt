use Rattle.std.proofs.Common.{◌≡◌, sym, arith}
use Rattle.layout.specs.Store.{splits_held_at}
use Rattle.layout.specs.AllLaws.{all_none, all_more, all-fails}
use Rattle.store.specs.SumLaws.{identifier-sum}
use Rattle.store.specs.SplitLaws.{identifier-good, identifier-bad}
use Rattle.store.proofs.splits.identifiers_good.Goals as goal

pub splits_held-held-requires : goal.splits_held-held-requires
splits_held-held-requires c = c.requires.head_at.head-there

pub loop-k-init : goal.loop-k-init
loop-k-init c = (omega arith, all_none _)

pub mask_at-m-requires : goal.mask_at-m-requires
mask_at-m-requires c = record { head_at = c.requires.head_at; row_bound = omega arith }

pub identifier_at-requires : goal.identifier_at-requires
identifier_at-requires c = record { head_at = c.requires.head_at; row_bound = omega arith }

pub returns-then-identifier_at-sum_over : goal.returns-then-identifier_at-sum_over
returns-then-identifier_at-sum_over c =
    let r = identifier-sum _ _ _ _ c.requires.sums c.sum_over.ensures in
    sym (all-fails _ _ c.loop-k.k (omega arith) (identifier-bad _ _ _ _ _ c.mask_at-m.ensures c.identifier_at.ensures r c.if-identifier_at-sum_over.true))

pub loop-k-preserved : goal.loop-k-preserved
loop-k-preserved c =
    let r = identifier-sum _ _ _ _ c.requires.sums c.sum_over.ensures in
    let e = identifier-good _ _ _ _ _ c.mask_at-m.ensures c.identifier_at.ensures r c.if-identifier_at-sum_over.false in
    (omega arith, all_more _ _ c.loop-k.invariant.1 e)

pub returns : goal.returns
returns c =
    let e : c.loop-k.k ≡ splits_held_at c.args.s.now = omega arith in
    sym (rw e at c.loop-k.invariant.1)
