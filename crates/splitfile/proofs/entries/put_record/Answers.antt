-- `splitfile::entries::put_record` meets its contract: three numbers, one behind the other. Assumes nothing.
use Rattle.splitfile.specs.Entries.{put_record}
use Rattle.splitfile.proofs.entries.put_record.Goals as goal

pub returns : goal.returns
unfolding put_record
returns c = cc
