-- `store::is_whole` meets its contract. Assumes nothing.
use Rattle.theorems.specs.ListLaws.{and_left}
use Rattle.opening.specs.GivenLaws.{failed, passed}
use Rattle.layout.specs.WholeFacts.{head-facts}
use Rattle.store.specs.SumLaws.{blank-new}
use Rattle.store.specs.WholeTestLaws.{no-head, no-splits, no-trees, no-chains, no-lanes, by-branches}
use Rattle.store.proofs.is_whole.Goals as goal

pub returns-then-not-head_good : goal.returns-then-not-head_good
returns-then-not-head_good c = no-head _ (failed _ _ c.head_good.ensures c.if-not-head_good.true-raw)

pub fill_sums-requires : goal.fill_sums-requires
fill_sums-requires c = record { head_at = head-facts _ (passed _ _ c.head_good.ensures c.if-not-head_good.false-raw); blank = blank-new _ }

pub splits_good-requires : goal.splits_good-requires
splits_good-requires c = record { head_at = head-facts _ (passed _ _ c.head_good.ensures c.if-not-head_good.false-raw); sums = c.fill_sums.ensures.sums }

pub returns-then-not-splits_good : goal.returns-then-not-splits_good
returns-then-not-splits_good c = no-splits _ (passed _ _ c.head_good.ensures c.if-not-head_good.false-raw) (failed _ _ c.splits_good.ensures c.if-not-splits_good.true-raw)

pub trees_good-requires : goal.trees_good-requires
trees_good-requires c = record { head_at = head-facts _ (passed _ _ c.head_good.ensures c.if-not-head_good.false-raw); s_value = (passed _ _ c.splits_good.ensures c.if-not-splits_good.false-raw) }

-- the trees are not good
pub returns-then-not-trees_good : goal.returns-then-not-trees_good
returns-then-not-trees_good c = no-trees _ (passed _ _ c.head_good.ensures c.if-not-head_good.false-raw) (passed _ _ c.splits_good.ensures c.if-not-splits_good.false-raw) (failed _ _ c.trees_good.ensures c.if-not-trees_good.true-raw)

pub fill_sums-requires-2 : goal.fill_sums-requires-2
fill_sums-requires-2 c = record { head_at = head-facts _ (passed _ _ c.head_good.ensures c.if-not-head_good.false-raw); blank = c.fill_sums.ensures.blank_2 }

pub chains_good-requires : goal.chains_good-requires
chains_good-requires c = record { head_at = head-facts _ (passed _ _ c.head_good.ensures c.if-not-head_good.false-raw); sums = c.fill_sums-2.ensures.sums }

pub returns-then-not-chains_good : goal.returns-then-not-chains_good
returns-then-not-chains_good c = no-chains _ (passed _ _ c.head_good.ensures c.if-not-head_good.false-raw) (passed _ _ c.splits_good.ensures c.if-not-splits_good.false-raw) (passed _ _ c.trees_good.ensures c.if-not-trees_good.false-raw) (failed _ _ c.chains_good.ensures c.if-not-chains_good.true-raw)

pub lanes_good-requires : goal.lanes_good-requires
lanes_good-requires c = head-facts _ (passed _ _ c.head_good.ensures c.if-not-head_good.false-raw)

pub returns-then-not-lanes_good : goal.returns-then-not-lanes_good
returns-then-not-lanes_good c = no-lanes _ (passed _ _ c.head_good.ensures c.if-not-head_good.false-raw) (passed _ _ c.splits_good.ensures c.if-not-splits_good.false-raw) (passed _ _ c.trees_good.ensures c.if-not-trees_good.false-raw) (passed _ _ c.chains_good.ensures c.if-not-chains_good.false-raw) (failed _ _ c.lanes_good.ensures c.if-not-lanes_good.true-raw)

pub branches_good-requires : goal.branches_good-requires
branches_good-requires c = record { head_at = head-facts _ (passed _ _ c.head_good.ensures c.if-not-head_good.false-raw); s_value = and_left _ _ (passed _ _ c.trees_good.ensures c.if-not-trees_good.false-raw) }

-- all before the branches is good
pub returns : goal.returns
returns c =
    by-branches _ (passed _ _ c.head_good.ensures c.if-not-head_good.false-raw) (passed _ _ c.splits_good.ensures c.if-not-splits_good.false-raw)
    (passed _ _ c.trees_good.ensures c.if-not-trees_good.false-raw) (passed _ _ c.chains_good.ensures c.if-not-chains_good.false-raw)
    (passed _ _ c.lanes_good.ensures c.if-not-lanes_good.false-raw) c.branches_good.ensures
