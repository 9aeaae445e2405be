use Rattle.std.proofs.Common.{◌≡◌, sym, refl, true≢false, arith}
use Rattle.opening.specs.GivenLaws.{failed, passed}
use Rattle.layout.specs.Store.{trees_held_at}
use Rattle.layout.specs.WholeStore.{good_list}
use Rattle.layout.specs.AllLaws.{all_none, all_more, all-fails}
use Rattle.store.proofs.lists.lists_good.Goals as goal

pub trees_held-trees-requires : goal.trees_held-trees-requires
trees_held-trees-requires c = c.requires.head_at.head-there

pub loop-i-init : goal.loop-i-init
loop-i-init c = (omega arith, c.trees_held-trees.ensures, all_none (good_list _), record { long = refl; free = refl }, c.requires.counted)

pub list_good-requires : goal.list_good-requires
list_good-requires c = let v = c.loop-i.invariant in record { head_at = c.requires.head_at; s_value = c.requires.s_value; i_bound = omega (arith, v.1, c.loop-i-test.true); vacant = v.3; counted = v.4 }

pub returns-then-not-list_good : goal.returns-then-not-list_good
returns-then-not-list_good c =
    let e = failed _ _ c.list_good.ensures.value c.if-not-list_good.true-raw in
    let t = c.loop-i-test.true in record { value = sym (all-fails (good_list _) _ c.loop-i.i (omega (arith, c.loop-i.invariant.1, t)) e); counted_2 = λ d. absurd (true≢false (sym d)) }

pub loop-i-preserved : goal.loop-i-preserved
loop-i-preserved c =
    let v = c.loop-i.invariant in
    let e = passed _ _ c.list_good.ensures.value c.if-not-list_good.false-raw in
    (omega (arith, c.loop-i-test.true), v.1, all_more (good_list _) _ v.2 e, c.list_good.ensures.vacant_2, c.list_good.ensures.counted_2 (c.if-not-list_good.false))

pub returns : goal.returns
returns c =
    let v = c.loop-i.invariant in
    let e : c.loop-i.i ≡ trees_held_at c.args.s.now = omega (arith, v.1, c.loop-i-test.false) in record { value = sym (rw e at v.2); counted_2 = λ d. rw e at v.4 }
