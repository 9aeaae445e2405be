-- `newick::read_leaves` meets its contract. Assumes nothing.
use Rattle.std.proofs.Common.{sym, ◌∙◌, arith, eqb-true}
use borrow.Author.Tests.{eqb-false}
use Rattle.std.proofs.lemmas.Result.{err_from_is_err_and}
use Rattle.newick.proofs.TaxonLaws.{prepared-opening, prepared-taxa}
use Rattle.newick.proofs.JudgeLaws.{read-wrong, read-missing, read-sound, every-taxon-here}
use Rattle.newick.proofs.read_leaves.Goals as goal

pub sum_leaves-requires : goal.sum_leaves-requires
sum_leaves-requires c = let e = c.min-k.ensures in record { prepared = c.requires.prepared; k_le_most_leaves = (omega (arith, e), rw e c.requires.tokens); wide_in_bounds = omega (arith, e) }

pub every_taxon-requires : goal.every_taxon-requires
every_taxon-requires c =
    let n = prepared-taxa _ _ _ c.requires.prepared in
    omega (arith, c.taxa.ensures.value)

-- in the answers below, g says that the opening is good, and all are all taxa
pub returns-then-not-is_same : goal.returns-then-not-is_same
returns-then-not-is_same c =
    let g = prepared-opening _ _ _ c.requires.prepared in
    let all = every-taxon-here _ _ _ c.taxa.ensures.value c.every_taxon.ensures in
    λ s m x. read-missing _ g s _ _ _ _ m x _ c.min-k.ensures _ _ c.sum_leaves.ensures c.in_ok-sum_leaves.was
    (λ y. eqb-false _ _ (sym c.is_same.ensures ∙ c.if-not-is_same.true) (c.mask_of.ensures ∙ y ∙ sym all))

pub returns-in_err-sum_leaves : goal.returns-in_err-sum_leaves
returns-in_err-sum_leaves c =
    let g = prepared-opening _ _ _ c.requires.prepared in
    let p = err_from_is_err_and c.from_residual.result c.from_residual.ensures.1 in
    rw (p.1, p.2) (λ s m x. read-wrong _ g s _ _ _ _ m x _ c.min-k.ensures _ _ c.sum_leaves.ensures _ c.in_err-sum_leaves.was)

pub returns : goal.returns
returns c =
    let g = prepared-opening _ _ _ c.requires.prepared in
    let all = every-taxon-here _ _ _ c.taxa.ensures.value c.every_taxon.ensures in
    λ s m x. read-sound _ g s _ _ _ _ m x _ c.min-k.ensures _ _ c.sum_leaves.ensures c.in_ok-sum_leaves.was
    (sym c.mask_of.ensures ∙ eqb-true _ _ (sym c.is_same.ensures ∙ c.if-not-is_same.false) ∙ all)
