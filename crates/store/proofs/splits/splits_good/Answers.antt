-- `store::splits::splits_good` meets its contract: the tests of the masks and of the identifiers. Assumes nothing.
use Rattle.std.proofs.Common.{sym, ◌∙◌}
use Rattle.store.specs.SplitLaws.{good-splits}
use Rattle.store.proofs.splits.splits_good.Goals as goal

pub returns-then-not-masks_good : goal.returns-then-not-masks_good
returns-then-not-masks_good c =
    let e = sym c.masks_good.ensures ∙ c.if-not-masks_good.true in
    sym (good-splits _ ∙ rw e)

pub returns : goal.returns
returns c =
    let e = sym c.masks_good.ensures ∙ c.if-not-masks_good.false in
    c.identifiers_good.ensures ∙ sym (good-splits _ ∙ rw e)
