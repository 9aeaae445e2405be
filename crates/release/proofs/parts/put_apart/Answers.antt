-- `release::parts::put_apart` meets its contract. Assumes nothing.
use Rattle.release.specs.ReleaseLaws.{apart_none, apart_of, taxon-there}
use Rattle.release.proofs.parts.put_apart.Goals as goal

pub put_stand_ins-requires : goal.put_stand_ins-requires
put_stand_ins-requires c = record { s_value = c.requires.s_value; i_bound = taxon-there _ c.in-Some.is c.requires.apart_value; at_bound = c.requires.at_bound }

pub returns-in-None : goal.returns-in-None
returns-in-None c = apart_none _ c.in-None.is _ _

pub returns-in-Some : goal.returns-in-Some
returns-in-Some c = apart_of _ c.in-Some.is c.put_stand_ins.ensures.put
