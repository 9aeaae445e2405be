-- `release::is_taxon` meets its contract. Assumes nothing.
use Rattle.rows.specs.ReadLaws.{long}
use Rattle.release.specs.ReleaseLaws.{taxon-nobody, taxon-of}
use Rattle.release.proofs.is_taxon.Goals as goal

pub taxa-requires : goal.taxa-requires
taxa-requires c = long _ c.requires

pub returns-in-None : goal.returns-in-None
returns-in-None c = taxon-nobody _ c.in-None.is

pub returns-in-Some : goal.returns-in-Some
returns-in-Some c = taxon-of _ c.in-Some.is c.taxa.ensures.value
