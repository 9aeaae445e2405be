use Rattle.std.proofs.Common.{◌≡◌, sym, ◌∙◌, arith}
use Rattle.layout.specs.Store.{splits_held_at}
use Rattle.layout.specs.AllLaws.{all_none, all_more, all-fails}
use Rattle.store.specs.SplitLaws.{before-none, before_more, split-read, order-bad, mask-improper, mask_below, mask-good}
use Rattle.store.proofs.splits.masks_good.Goals as goal

pub taxa-n-requires : goal.taxa-n-requires
taxa-n-requires c = c.requires.head-there

pub splits_held-held-requires : goal.splits_held-held-requires
splits_held-held-requires c = c.requires.head-there

pub loop-k-init : goal.loop-k-init
loop-k-init c = (omega arith, sym (before-none _), all_none _)

pub row_of-row-requires : goal.row_of-row-requires
row_of-row-requires c = record { head_at = c.requires; k_bound = omega arith }

pub returns-then-held-row : goal.returns-then-held-row
returns-then-held-row c = sym (all-fails _ _ c.loop-k.k (omega arith) (order-bad _ _ _ c.row_of-row.ensures (omega arith)))

pub mask_at-m-requires : goal.mask_at-m-requires
mask_at-m-requires c = record { head_at = c.requires; row_bound = omega arith }

pub returns-then-not-is_proper : goal.returns-then-not-is_proper
returns-then-not-is_proper c =
    let r = c.row_of-row.ensures in
    let m = split-read _ _ _ _ r c.mask_at-m.ensures in
    let p = sym c.is_proper.ensures ∙ c.if-not-is_proper.true in
    sym (all-fails _ _ c.loop-k.k (omega arith) (mask-improper _ _ _ r (omega arith) _ _ c.taxa-n.ensures.value m p))

pub returns-then-not-comes_before : goal.returns-then-not-comes_before
returns-then-not-comes_before c =
    let r = c.row_of-row.ensures in
    let m = split-read _ _ _ _ r c.mask_at-m.ensures in
    let p = sym c.is_proper.ensures ∙ c.if-not-is_proper.false in
    let b = sym c.comes_before.ensures ∙ c.if-not-comes_before.true in
    let l = c.loop-k in
    sym (all-fails _ _ l.k (omega arith) (mask_below _ _ _ r (omega arith) _ _ c.taxa-n.ensures.value m p _ l.invariant.1 b))

pub loop-k-preserved : goal.loop-k-preserved
loop-k-preserved c =
    let r = c.row_of-row.ensures in
    let m = split-read _ _ _ _ r c.mask_at-m.ensures in
    let p = sym c.is_proper.ensures ∙ c.if-not-is_proper.false in
    let b = sym c.comes_before.ensures ∙ c.if-not-comes_before.false in
    let l = c.loop-k in
    let e = mask-good _ _ _ r (omega arith) _ _ c.taxa-n.ensures.value m p _ l.invariant.1 b in
    (omega arith, m ∙ sym (before_more _ _), all_more _ _ l.invariant.2 e)

pub returns : goal.returns
returns c =
    let e : c.loop-k.k ≡ splits_held_at c.args.s.now = omega arith in
    sym (rw e at c.loop-k.invariant.2)
