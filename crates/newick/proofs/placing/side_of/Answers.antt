-- `newick::placing::side_of` meets its contract. Assumes nothing.
use Rattle.std.proofs.Common.{ap, ◌∙◌, ap₂}
use Rattle.trees.specs.Mask.{without, side}
use Rattle.newick.proofs.placing.side_of.Goals as goal

pub side-requires : goal.side-requires
side-requires c = let p = c.requires.taxa_bound in record { n_bound = p.0; m_bound = rw (c.taxa_without-x.ensures, c.mask_of.ensures, c.mask_of-2.ensures) p.1 }

pub returns : goal.returns
returns c = c.side.ensures ∙ ap (side _) (c.taxa_without-x.ensures ∙ ap₂ without c.mask_of.ensures c.mask_of-2.ensures)
