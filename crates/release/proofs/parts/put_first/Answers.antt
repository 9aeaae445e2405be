-- `release::parts::put_first` meets its contract: one part behind another. Assumes nothing.
use native.Mathlib.Omega.{arith}
use Rattle.trees.specs.Plain.{bytes}
use Rattle.release.specs.ReleaseLaws.{first-put}
use Rattle.release.proofs.parts.put_first.Goals as goal

pub returns : goal.returns
unfolding bytes
returns c = record { put = first-put _ _ c.put_counts-a.ensures.put c.put_groups-b.ensures.put c.put_majority-c.ensures.put c.put_strict-d.ensures.put c.put_drawing.ensures.put; upper_bound = omega (arith, c.put_counts-a.ensures.upper_bound, c.put_groups-b.ensures.upper_bound, c.put_majority-c.ensures.upper_bound, c.put_strict-d.ensures.upper_bound, c.put_drawing.ensures.upper_bound) }
