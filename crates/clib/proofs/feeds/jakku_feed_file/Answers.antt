-- `clib::feeds::jakku_feed_file` meets its contract. Assumes nothing.
use Rattle.clib.proofs.feeds.jakku_feed_file.Goals as goal

pub returns : goal.returns
returns c = let h = c.number.ensures in record { nexus_as = rw h.0 c.feed_file.ensures; value = rw h.0 h.1 }
