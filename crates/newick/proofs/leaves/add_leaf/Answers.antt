-- `newick::leaves::add_leaf` meets its contract. Assumes nothing.
use Rattle.std.proofs.Common.{sym, ◌∙◌}
use Rattle.newick.proofs.TaxonLaws.{prepared-taxa, taxon-64, leaf-none, leaf-below, leaf-before, leaf-more}
use Rattle.newick.proofs.leaves.add_leaf.Goals as goal

pub find_taxon-f-requires : goal.find_taxon-f-requires
find_taxon-f-requires c = record { head_bytes_in_bounds = c.requires.prepared.reach; s_bound = prepared-taxa _ _ _ c.requires.prepared; indexed = c.requires.prepared.indexed; b_le_e = c.requires.b_le_e.0; e_in_bounds = c.requires.b_le_e.1 }

pub returns-in_default : goal.returns-in_default
returns-in_default c = leaf-none _ _ _ _ c.find_taxon-f.ensures.value c.in_default.is

pub has_taxon-requires : goal.has_taxon-requires
has_taxon-requires c = taxon-64 _ c.requires.prepared.good _ (leaf-below _ _ 0 _ c.find_taxon-f.ensures.value _ c.in-Some.is c.find_taxon-f.ensures.below)

pub returns-then-has_taxon : goal.returns-then-has_taxon
returns-then-has_taxon c = leaf-before _ _ _ _ c.find_taxon-f.ensures.value _ c.in-Some.is (sym c.has_taxon.ensures ∙ c.if-has_taxon.true)

pub add_taxon-requires : goal.add_taxon-requires
add_taxon-requires c = record { head_bytes_in_bounds = (c.requires.prepared.reach, c.requires.prepared.good); t_bound = leaf-below _ _ 0 _ c.find_taxon-f.ensures.value _ c.in-Some.is c.find_taxon-f.ensures.below; t_value = sym c.has_taxon.ensures ∙ c.if-has_taxon.false; hashed = c.requires.hashed }

pub returns : goal.returns
returns c =
    leaf-more _ _ _ _ c.find_taxon-f.ensures.value _ c.in-Some.is (sym c.has_taxon.ensures ∙ c.if-has_taxon.false) _
    c.add_taxon.ensures.mask_value c.add_taxon.ensures.hashed_2
