-- `clib::feeds::jakku_feed` meets its contract. Assumes nothing.
use Rattle.clib.proofs.feeds.jakku_feed.Goals as goal

pub returns : goal.returns
returns c = let h = c.fed.ensures in record { fed_as = rw h.0 c.feed.ensures; value = rw h.0 h.1 }
