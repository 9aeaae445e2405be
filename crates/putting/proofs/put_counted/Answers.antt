-- `putting::put_counted` meets its contract. Assumes nothing.
use Rattle.putting.specs.PutLaws.{put_then}
use Rattle.putting.specs.WritingLaws.{counted-ends}
use Rattle.putting.proofs.put_counted.Goals as goal

pub returns : goal.returns
returns c = let w = c.put_word-e.ensures in record { put = put_then w c.put_number.ensures.put; upper_bound = counted-ends _ _ _ _ _ _ _ w c.put_number.ensures.upper_bound }
