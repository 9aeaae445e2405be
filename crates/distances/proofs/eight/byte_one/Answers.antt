-- `distances::eight::byte_one` meets its contract. Assumes nothing.
use Rattle.distances.specs.EightLaws.{one_shifted}
use Rattle.distances.proofs.eight.byte_one.Goals as goal

pub returns : goal.returns
returns c = one_shifted _ c.requires
