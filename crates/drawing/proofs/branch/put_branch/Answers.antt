-- `drawing::branch::put_branch` meets its contract. Assumes nothing.
use native.Mathlib.Omega.{arith}
use Rattle.trees.specs.Drawn.{branch_to}
use Rattle.putting.specs.PutLaws.{put_one, put_then}
use Rattle.drawing.proofs.branch.put_branch.Goals as goal

pub returns : goal.returns
unfolding branch_to
returns c = record { put = put_then c.put_counted-e.ensures.put (put_one c.put_byte.ensures); upper_bound = (omega (arith, c.put_counted-e.ensures.upper_bound.0), λ f. omega (arith, c.put_counted-e.ensures.upper_bound.1 f)) }
