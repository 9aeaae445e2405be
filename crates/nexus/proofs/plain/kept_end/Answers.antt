-- `nexus::plain::kept_end` meets its contract. Assumes nothing.
use native.Mathlib.Omega.{arith}
use Rattle.nexus.specs.KeptLaws.{kept-opened}
use Rattle.nexus.proofs.plain.kept_end.Goals as goal

pub past_openings-requires : goal.past_openings-requires
past_openings-requires c = c.past_marked-at.ensures.kept_as.within

pub returns : goal.returns
returns c = let o = c.past_openings.ensures in record { kept_as = kept-opened _ _ _ _ _ c.past_marked-at.ensures.kept_as o; quote_past = λ e. omega (arith, c.past_marked-at.ensures.quote_past e, o.past) }
