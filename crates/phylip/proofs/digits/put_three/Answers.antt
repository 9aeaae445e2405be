-- `phylip::digits::put_three` meets its contract. Assumes nothing.
use Rattle.phylip.specs.LineLaws.{three-put}
use Rattle.phylip.proofs.digits.put_three.Goals as goal

pub returns : goal.returns
returns c = three-put _ _ _ _ c.digit.ensures c.digit-2.ensures c.digit-3.ensures c.put_byte.ensures c.put_byte-2.ensures c.put_byte-3.ensures
