-- `grouping::nearest::has_both` meets its contract. Assumes nothing.
use mathlib.Core.Path.{sym, ◌∙◌}
use Rattle.grouping.specs.NearestLaws.{both-second, both-not}
use Rattle.grouping.proofs.nearest.has_both.Goals as goal

pub returns-then-has_taxon : goal.returns-then-has_taxon
returns-then-has_taxon c =
    let a = c.args in
    c.has_taxon-then-has_taxon.ensures ∙ both-second a.i.0 a.j.0 a.m (sym c.has_taxon.ensures ∙ c.if-has_taxon.true)

pub returns-else-has_taxon : goal.returns-else-has_taxon
returns-else-has_taxon c =
    let a = c.args in
    c.has_taxon.ensures ∙ rw c.has_taxon.ensures at (c.if-has_taxon.false) ∙ both-not a.i.0 a.j.0 a.m (sym c.has_taxon.ensures ∙ c.if-has_taxon.false)
