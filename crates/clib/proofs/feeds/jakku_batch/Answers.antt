-- `clib::feeds::jakku_batch` meets its contract. Assumes nothing.
use Rattle.clib.proofs.feeds.jakku_batch.Goals as goal

pub returns : goal.returns
returns c = let h = c.number.ensures in record { batched_as = rw h.0 c.batch.ensures; value = rw h.0 h.1 }
