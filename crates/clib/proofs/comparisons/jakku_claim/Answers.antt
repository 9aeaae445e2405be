-- `clib::comparisons::jakku_claim` meets its contract. Assumes nothing.
use Rattle.clib.proofs.comparisons.jakku_claim.Goals as goal

pub returns : goal.returns
returns c = let h = c.claimed.ensures in record { result_value = rw h.0 c.claim.ensures; value = rw h.0 h.1 }
