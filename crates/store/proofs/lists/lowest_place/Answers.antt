-- `store::lists::lowest_place` meets its contract. Assumes nothing.
use Rattle.std.proofs.Common.{sym, refl, ◌∙◌, arith, eqb-true}
use borrow.Author.Tests.{eqb-false}
use Rattle.store.proofs.lists.lowest_place.Goals as goal

pub returns-then-is_empty : goal.returns-then-is_empty
returns-then-is_empty c =
    let e = eqb-true _ _ (sym c.is_empty.ensures ∙ c.if-is_empty.true) in
    record { none = λ d. refl; some = λ f. absurd (f e); most = omega arith }

pub returns : goal.returns
returns c =
    let f = eqb-false _ _ (sym c.is_empty.ensures ∙ c.if-is_empty.false) in
    record { none = λ e. absurd (f e); some = λ d. c.lowest_taxon.ensures.result_value; most = omega (arith, c.lowest_taxon.ensures.result_bound) }
