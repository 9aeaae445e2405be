use Rattle.std.proofs.Common.{◌≡◌, ◌<◌, sym, ◌∙◌, arith}
use Rattle.opening.specs.GivenLaws.{failed, passed}
use Rattle.layout.specs.Store.{trees_held_at}
use Rattle.layout.specs.WholeStore.{good_list, good_branches_at}
use Rattle.layout.specs.WholeFacts.{list-facts}
use Rattle.layout.specs.AllLaws.{all_none, all_more, all-fails, all-at}
use Rattle.store.specs.BranchTestLaws.{branches-none}
use Rattle.store.proofs.branches.branches_good.Goals as goal

pub kept-requires : goal.kept-requires
kept-requires c = c.requires.head_at.head-there

pub returns-then-kept-eq0 : goal.returns-then-kept-eq0
returns-then-kept-eq0 c = sym (branches-none _ (sym c.kept.ensures.value ∙ c.if-kept-eq0.true))

pub trees_held-trees-requires : goal.trees_held-trees-requires
trees_held-trees-requires c = c.requires.head_at.head-there

pub loop-i-init : goal.loop-i-init
loop-i-init c = (omega arith, c.trees_held-trees.ensures, all_none (good_branches_at _))

pub lengths_good-requires : goal.lengths_good-requires
lengths_good-requires c =
    let v = c.loop-i in
    let b : v.i < trees_held_at c.args.s.now = omega (arith, v.invariant.1) in record { head_at = c.requires.head_at; i_bound = b; i_len_bound = (list-facts _ _ (all-at (good_list _) _ c.requires.s_value v.i b)).few; bound = omega (arith, c.kept.ensures.value, c.if-kept-eq0.false) }

pub returns-then-not-lengths_good : goal.returns-then-not-lengths_good
returns-then-not-lengths_good c =
    let v = c.loop-i in
    sym (all-fails (good_branches_at _) _ v.i (omega (arith, v.invariant.1)) (failed _ _ c.lengths_good.ensures c.if-not-lengths_good.true-raw))

pub loop-i-preserved : goal.loop-i-preserved
loop-i-preserved c =
    let v = c.loop-i in
    (omega arith, v.invariant.1, all_more (good_branches_at _) _ v.invariant.2 (passed _ _ c.lengths_good.ensures c.if-not-lengths_good.false-raw))

pub returns : goal.returns
returns c =
    let v = c.loop-i in
    let e : v.i ≡ trees_held_at c.args.s.now = omega (arith, v.invariant.1) in
    sym (rw e at v.invariant.2)
