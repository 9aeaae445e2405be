-- `release::put_release` meets its contract. Assumes nothing.
use native.Mathlib.Omega.{arith}
use Rattle.release.specs.ReleaseLaws.{all-newick, all-put}
use Rattle.release.proofs.put_release.Goals as goal

pub returns-then-w : goal.returns-then-w
returns-then-w c = all-newick _ _ _ c.if-w.true c.put_newick.ensures

pub put_apart-requires : goal.put_apart-requires
put_apart-requires c = record { s_value = c.requires.s_value; apart_value = c.requires.apart_value; at_bound = omega (arith, c.put_splits-e.ensures.upper_bound, c.put_first-first.ensures.upper_bound) }

pub returns : goal.returns
returns c = all-put _ _ _ c.if-w.false c.put_first-first.ensures.put c.put_splits-e.ensures.put c.put_apart.ensures
