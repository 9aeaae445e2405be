use Rattle.std.proofs.Common.{sym, refl, ◌∙◌, eqb-true}
use borrow.Author.Tests.{eqb-false}
use Rattle.store.specs.UnionLaws.{rest-less, part_none, part-next, part-all}
use Rattle.store.proofs.lists.union_at.Goals as goal

pub loop-all-init : goal.loop-all-init
loop-all-init c =
    let one = part-next _ _ _ _ _ _ _ (part_none _ _) c.without_lowest-next.ensures refl c.lowest_in.ensures in
    part-next _ _ _ _ _ _ _ one c.without_lowest-rest.ensures c.union_of-all.ensures c.lowest_in-2.ensures

pub loop-all-smaller : goal.loop-all-smaller
loop-all-smaller c = rest-less _ _ (eqb-false _ _ (sym c.is_empty.ensures ∙ c.loop-all-test.true)) c.without_lowest-rest-in-loop-all.ensures

pub loop-all-preserved : goal.loop-all-preserved
loop-all-preserved c =
    let l = c.loop-all in
    part-next _ _ _ _ _ _ _ l.invariant c.without_lowest-rest-in-loop-all.ensures c.union_of-all-in-loop-all.ensures c.lowest_in-in-loop-all.ensures

pub returns : goal.returns
returns c =
    let e = eqb-true _ _ (sym c.is_empty.ensures ∙ c.loop-all-test.false) in
    part-all _ _ _ _ e c.loop-all.invariant
