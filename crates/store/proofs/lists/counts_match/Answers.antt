use Rattle.std.proofs.Common.{◌≡◌, sym, arith}
use Rattle.layout.specs.Store.{splits_held_at}
use Rattle.layout.specs.WholeStore.{good_count}
use Rattle.layout.specs.AllLaws.{all_none, all_more, all-fails}
use Rattle.layout.specs.InsideLaws.{splits-few}
use Rattle.store.specs.CountLaws.{count-zero, count-wrong, count-right}
use Rattle.store.proofs.lists.counts_match.Goals as goal

pub splits_held-splits-requires : goal.splits_held-splits-requires
splits_held-splits-requires c = c.requires.head_at.head-there

pub loop-k-init : goal.loop-k-init
loop-k-init c = (omega arith, c.splits_held-splits.ensures.value, omega (arith, splits-few _ c.requires.head_at), all_none (good_count _))

pub count_at-count-requires : goal.count_at-count-requires
count_at-count-requires c = record { head_at = c.requires.head_at; row_bound = omega arith }

pub returns-then-count-eq0 : goal.returns-then-count-eq0
returns-then-count-eq0 c =
    let l = c.loop-k in
    sym (all-fails (good_count _) _ l.k (omega arith) (count-zero _ _ _ c.count_at-count.ensures c.if-count-eq0.true))

pub returns-then-count-from : goal.returns-then-count-from
returns-then-count-from c =
    let l = c.loop-k in
    let e = c.requires.counted.entries l.k (omega arith) in
    sym (all-fails (good_count _) _ l.k (omega arith) (count-wrong _ _ _ c.count_at-count.ensures (λ q. c.if-count-from.true (omega arith))))

pub loop-k-preserved : goal.loop-k-preserved
loop-k-preserved c =
    let l = c.loop-k in
    let e = c.requires.counted.entries l.k (omega arith) in
    let r = count-right _ l.k _ c.count_at-count.ensures c.if-count-eq0.false (omega arith) in
    (omega arith, l.invariant.1, l.invariant.2, all_more (good_count _) _ l.invariant.3 r)

pub returns : goal.returns
returns c =
    let l = c.loop-k in
    let e : l.k ≡ splits_held_at c.args.s.now = omega arith in
    sym (rw e at l.invariant.3)
